-- How long the text of a sheet's picture can be: 7,273 bytes, and some text is that long.
-- Assumes nothing.
use Prim.Native.Nat.{ℕ, ◌+◌, ◌≤◌, ◌<◌, zero-le}
use mathlib.Core.Path.{◌≡◌, refl, ap}
use mathlib.Core.List.{List, ◌++◌, map, flat_map, map-map}
use mathlib.Core.Bool.{Bool, cond}
use native.Mathlib.Nat.{le_refl}
use native.Mathlib.Omega.{arith}
use borrow.Author.Tests.{ltb-true, lt-ltb}
use lib.Dec.{ltb}
use lib.ListN.{length, length-append}
use Rattle.common.specs.Lists.{up_to, filter, sum, maximum}
use Rattle.common.proofs.Bools.{by_cases}
use Rattle.common.proofs.Members.{up_to-below, length-up_to, get_or-up_to}
use Rattle.common.proofs.Sums.{sum_mono, sum-add, sum-those, sum-up, length-flat_map, flat_map-flat_map}
use Rattle.common.proofs.ClassSums.{classes-sum}
use Rattle.decimal.specs.Decimal.{digits, decimal}
use Rattle.sheet.specs.Model.{Model, machine_count}
use Rattle.sheet.specs.Valid.{Valid}
use Rattle.sheet.proofs.Guarantees.{accepted-valid}
use Rattle.plan.specs.Groups.{Grouping, group_of, group_count, groups_of, members}
use Rattle.picture.specs.Picture.{Edge, edge, Picture, edges_by, named_by, picture_of}
use Rattle.picture.specs.Text.{first_line, last_line, line_start, labels, node_line, edge_line, text_of}
use Rattle.picture.specs.Drawn.{LongestRight}
use Rattle.picture.specs.Kept.Rows.{node_of}
use Rattle.picture.proofs.Labels.{label_length, labels_length}
use Rattle.picture.proofs.Pieces.{node-length}
use Rattle.picture.proofs.Edges.{edges_by-members}
use Rattle.picture.proofs.Numbers.{pictures-are-drawable}
use Rattle.picture.proofs.DrawableMeans.{Drawable, drawable-means, few-groups}
use Rattle.picture.proofs.Sheets.{drawn_by, edge-lower, every-drawable-has-a-sheet}

-- Lines

-- a node but for its machines
abbrev node_frame : ℕ → ℕ
node_frame k = 15 + length (decimal k)

frame-length : (groups : Grouping) (k : ℕ)
    → length (node_line groups k) ≡ node_frame k + sum (map label_length (members groups k))
unfolding node_line node_of
frame-length groups k = omega (arith, node-length k (members groups k), labels_length 34 (members groups k))

abbrev edge_length : ℕ → ℕ → ℕ
edge_length a k = length (edge_line (edge a k))

-- the longest that the edges from a can be
abbrev most_from : ℕ → ℕ
most_from a = sum (map (λ k. cond (ltb a k) (edge_length a k) 0) (up_to 32))

most-nodes : sum (map node_frame (up_to 32)) ≡ 534
unfolding sum up_to decimal digits
most-nodes = refl

most-labels : sum (map label_length (up_to 32)) ≡ 86
unfolding sum up_to decimal digits
most-labels = refl

most-edges : sum (map most_from (up_to 32)) ≡ 6634
unfolding sum up_to decimal digits line_start edge_line
most-edges = refl

-- The text of a drawable picture

module _ (groups : Grouping) (joined : ℕ → ℕ → Bool) (d : Drawable (drawn_by groups joined)) where
  abbrev count : ℕ
  count = group_count groups

  few : count ≤ 32
  few = few-groups (drawn_by groups joined) d

  nodes-short : length (flat_map (node_line groups) (up_to count)) ≤ 620
  unfolding members
  nodes-short =
      let own : ℕ → ℕ = λ k. sum (map label_length (members groups k)) in
      omega (
        arith,
        length-flat_map (node_line groups) (up_to count),
        sum_mono (λ k. length (node_line groups k)) (λ k. node_frame k + own k) (up_to count)
            (λ k m. omega (arith, frame-length groups k)),
        sum-add node_frame own (up_to count),
        sum-up node_frame 32 few,
        most-nodes,
        classes-sum label_length (group_of groups) (up_to (length groups)) count,
        sum-up label_length 32 d.few,
        most-labels,
      )

  edges-from : (a : ℕ) → a < count
      → length (flat_map edge_line (map (edge a) (filter (joined a) (up_to count)))) ≤ most_from a
  edges-from a h =
      let ks = filter (joined a) (up_to count) in
      let drawn : ℕ → ℕ = λ k. cond (joined a k) (edge_length a k) 0 in
      let most : ℕ → ℕ = λ k. cond (ltb a k) (edge_length a k) 0 in
      let lower : (k : ℕ) → k < count → drawn k ≤ most k = λ k l.
      by_cases (joined a k)
      (λ t. rw (t, lt-ltb a k (edge-lower groups joined d a k h l t)) (le_refl _))
      (λ n. rw n zero-le) in
      omega (
        arith,
        length-flat_map edge_line (map (edge a) ks),
        ap sum (map-map (λ e. length (edge_line e)) (edge a) ks),
        sum-those (edge_length a) (joined a) (up_to count),
        sum_mono drawn most (up_to count) (λ k m. lower k (up_to-below count m)),
        sum-up most 32 few,
      )

  edges-short : length (flat_map edge_line (edges_by joined count)) ≤ 6634
  unfolding edges_by
  edges-short =
      let from : ℕ → List Edge = λ a. map (edge a) (filter (joined a) (up_to count)) in
      omega (
        arith,
        ap length (flat_map-flat_map edge_line from (up_to count)),
        length-flat_map (λ a. flat_map edge_line (from a)) (up_to count),
        sum_mono (λ a. length (flat_map edge_line (from a))) most_from (up_to count)
            (λ a m. edges-from a (up_to-below count m)),
        sum-up most_from 32 few,
        most-edges,
      )

  pub drawn-short : length (text_of (drawn_by groups joined)) ≤ 7273
  unfolding text_of
  drawn-short =
      let nodes = flat_map (node_line groups) (up_to count) in
      let edges = flat_map edge_line (edges_by joined count) in
      omega (
        arith,
        length-append (first_line ++ nodes ++ edges) last_line,
        length-append (first_line ++ nodes) edges,
        length-append first_line nodes,
        nodes-short,
        edges-short,
      )

pub longest-text : {m : Model} → Valid m → 0 < machine_count m → length (text_of (picture_of m)) ≤ 7273
unfolding picture_of
longest-text {m} valid some =
    drawn-short (groups_of m) (named_by m (groups_of m)) ((drawable-means _).0 (pictures-are-drawable valid some))

-- A text that long: 32 groups of a machine each, each with an edge from every one below it

abbrev fullest : Picture
fullest = drawn_by (up_to 32) ltb

fullest-count : group_count (up_to 32) ≡ 32
unfolding group_count maximum up_to
fullest-count = refl

fullest-length : length (text_of fullest) ≡ 7273
unfolding
    flat_map up_to filter maximum group_count members digits decimal edges_by line_start labels node_line edge_line text_of
fullest-length = refl

fullest-drawable : Drawable fullest
fullest-drawable =
    let size = length-up_to 32 in
    record {
      some = omega arith;
      few = omega arith;
      numbers-below = λ i h. rw (get_or-up_to 0 (rw size at h)) h;
      turns = λ k h.
          let l : k < 32 = omega (arith, fullest-count) in
          let has = get_or-up_to 0 l in
          record {
            first = k;
            below = omega arith;
            has = has;
            is-ready = (
              omega arith,
              λ e e-in q.
                  let t = ((edges_by-members ltb (group_count (up_to 32)) e).0 e-in).2 in
                  omega (arith, ltb-true e.source e.target t),
            );
            least = λ j b r. omega (arith, r.0, get_or-up_to {i = j} {n = 32} 0 (omega arith));
          };
    }

pub longest-right : LongestRight
longest-right =
    record {
      at_most = λ sheet d parses. let (valid, some) = accepted-valid sheet d parses in longest-text valid some;
      reached = (
        text_of fullest,
        every-drawable-has-a-sheet fullest ltb refl ((drawable-means fullest).1 fullest-drawable),
        fullest-length,
      );
    }
