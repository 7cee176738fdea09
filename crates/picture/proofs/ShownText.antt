-- A text whose nodes and edges were read is that of the picture that is kept.
-- Assumes nothing.
use Prim.Native.Nat.{ℕ, ◌+◌, ◌-◌, ◌≤◌, ◌<◌}
use mathlib.Core.Path.{◌≡◌, refl, sym, ap, ap₂, ◌∙◌}
use mathlib.Core.List.{List, ◌++◌, map, flat_map}
use mathlib.Core.Bool.{Bool, true, ◌&&◌}
use native.Mathlib.Omega.{arith}
use borrow.Author.Tests.{ltb-true, ltb-false, lt-ltb, eqb-true}
use lib.Dec.{eqb, ltb}
use lib.ListN.{length, get_or, take, drop, get_or-eq_default}
use lib.Seq.{length-take-le, get_or-take}
use Rattle.common.specs.Bits.{bit}
use Rattle.common.specs.Lists.{up_to, filter}
use Rattle.common.proofs.Bools.{true-false, by_cases, and_left, and_right}
use Rattle.common.proofs.Lists.{filter-cong}
use Rattle.common.proofs.Members.{mem-get_or, up_to-below}
use Rattle.common.proofs.Sums.{flat_map-cong, flat_map-map, flat_map-flat_map}
use Rattle.decimal.specs.Decimal.{starts_with}
use Rattle.sets.specs.Kept.Sets.{elements}
use Rattle.sets.proofs.Laws.{bit-none}
use Rattle.plan.specs.Groups.{group_count, members}
use Rattle.plan.proofs.Groups.{highest-group}
use Rattle.plan.proofs.Named.{group-below-count}
use Rattle.plan.proofs.ModeDigits.{member_of, member_below}
use Rattle.picture.specs.Picture.{edge, edges_by}
use Rattle.picture.specs.Text.{first_line, last_line, node_line, edge_line, text_of}
use Rattle.picture.specs.Kept.Shown.{shown, Shown}
use Rattle.picture.specs.Kept.Matched.{Spans, labelled, NodesStand, EdgesStand}
use Rattle.picture.specs.Kept.Rows.{node_of, edges_of}
use Rattle.picture.proofs.Rising.{those-below}
use Rattle.picture.proofs.Spanning.{spans-then, spans-bytes, spans-whole}

-- edges by their source
pub edges-rows : (rel : ℕ → ℕ → Bool) (n : ℕ)
    → flat_map edge_line (edges_by rel n) ≡ flat_map (λ a. edges_of a (filter (rel a) (up_to n))) (up_to n)
unfolding edges_by edges_of
edges-rows rel n =
    flat_map-flat_map edge_line (λ a. map (edge a) (filter (rel a) (up_to n))) (up_to n)
    ∙ flat_map-cong _ _ (up_to n) (λ a a_in. flat_map-map edge_line (edge a) (filter (rel a) (up_to n)))

pub node-line : (groups : List ℕ) (k : ℕ) → node_line groups k ≡ node_of k (members groups k)
unfolding node_line node_of
node-line groups k = refl

-- what was found in a text: its nodes, with the machines below n, its edges, and the last line at its end
pub record Matches (text numbers targets : List ℕ) (seen n count end last : ℕ) : Type 0 where
  pub numbers-size : length numbers ≡ 64
  pub targets-size : length targets ≡ 32
  pub bits : (i : ℕ) → bit seen i ≡ ltb i n
  pub some : 0 < count
  pub no_more : count ≤ n
  pub first : starts_with first_line (drop 0 text) ≡ true
  pub nodes : NodesStand text numbers seen count end
  pub edges : EdgesStand text end count targets count last
  pub ends : starts_with last_line (drop last text) && eqb (last + 2) (length text) ≡ true

module _ {text numbers targets : List ℕ} {seen n count end last : ℕ}
    (m : Matches text numbers targets seen n count end last) where
  pub matches-few : n ≤ 32
  matches-few =
      let some = m.some in
      let more = m.no_more in
      let l = m.nodes.few (n - 1) (m.bits (n - 1) ∙ lt-ltb (n - 1) n (omega arith)) in
      omega arith

  numbers-length : length (take n numbers) ≡ n
  numbers-length =
      let l = matches-few in
      length-take-le n numbers (omega (arith, m.numbers-size))

  targets-length : length (take count targets) ≡ count
  targets-length =
      let l = matches-few in
      let more = m.no_more in
      length-take-le count targets (omega (arith, m.targets-size))

  -- the machines of a group
  own-members : (j : ℕ) → members (take n numbers) j ≡ labelled numbers seen j
  unfolding members labelled
  own-members j =
      let few = matches-few in
      ap (λ k. filter (λ i. eqb (get_or (take n numbers) i 0) j) (up_to k)) numbers-length
      ∙ filter-cong _ _ (up_to n) (λ i i-in.
      let l = up_to-below n i-in in
      rw (m.bits i, lt-ltb i n l, get_or-take n numbers i 0 l) refl)
      ∙ sym (those-below (λ i. bit seen i && eqb (get_or numbers i 0) j) n 64 (omega arith) (λ i t.
      ltb-true i n (sym (m.bits i) ∙ and_left _ _ t)))

  own-used : (k : ℕ) → k < count → 0 < length (members (take n numbers) k)
  own-used k l = rw (own-members k) (m.nodes.some k l)

  own-count : group_count (take n numbers) ≡ count
  own-count =
      let some = m.some in
      let i-in = mem-get_or (members (take n numbers) (count - 1)) 0 0 (own-used (count - 1) (omega arith)) in
      let highest = group-below-count (take n numbers) _ (member_below (take n numbers) (count - 1) i-in) in
      let has = member_of (take n numbers) (count - 1) i-in in
      let none : ¬ (count < group_count (take n numbers)) = λ l.
      let (i, i-below, high) = highest-group (take n numbers) count l in
      let h : i < n = omega (arith, numbers-length) in
      let low = m.nodes.below i (m.bits i ∙ lt-ltb i n h) in
      omega (arith, get_or-take n numbers i 0 h) in
      omega arith

  -- the edges from a group
  own_row : (a : ℕ) → a < count → filter (bit (get_or (take count targets) a 0)) (up_to count) ≡ elements (get_or targets a 0)
  unfolding elements
  own_row a l =
      let few = matches-few in
      let more = m.no_more in
      rw (get_or-take count targets a 0 l)
      (sym (those-below (bit (get_or targets a 0)) count 64 (omega arith) (λ j t. m.edges.below a j l t)))

  own-inside : (a k : ℕ) → bit (get_or (take count targets) a 0) k ≡ true → k < count
  own-inside a k t =
      by_cases (ltb a count)
      (λ u.
      let l = ltb-true a count u in
      m.edges.below a k l (sym (ap (λ s. bit s k) (get_or-take count targets a 0 l)) ∙ t))
      (λ f.
      let none = get_or-eq_default (take count targets) 0 {n = a} (omega (arith, targets-length, ltb-false a count f)) in
      absurd (true-false t (ap (λ s. bit s k) none ∙ bit-none k)))

  own-nodes : flat_map (node_line (take n numbers)) (up_to (group_count (take n numbers)))
      ≡ flat_map (λ j. node_of j (labelled numbers seen j)) (up_to count)
  own-nodes =
      ap (λ k. flat_map (node_line (take n numbers)) (up_to k)) own-count
      ∙ flat_map-cong _ _ (up_to count) (λ j j-in. node-line (take n numbers) j ∙ ap (node_of j) (own-members j))

  own-edges : flat_map edge_line (edges_by (λ a k. bit (get_or (take count targets) a 0) k) (length (take count targets)))
      ≡ flat_map (λ a. edges_of a (elements (get_or targets a 0))) (up_to count)
  own-edges =
      ap (λ k. flat_map edge_line (edges_by (λ a k. bit (get_or (take count targets) a 0) k) k)) targets-length
      ∙ edges-rows (λ a k. bit (get_or (take count targets) a 0) k) count
      ∙ flat_map-cong _ _ (up_to count) (λ a a_in. ap (edges_of a) (own_row a (up_to-below count a_in)))

  whole : Spans text 0 (first_line ++ flat_map (λ j. node_of j (labelled numbers seen j)) (up_to count)
      ++ flat_map (λ a. edges_of a (elements (get_or targets a 0))) (up_to count) ++ last_line) (length text)
  whole =
      let last-stands = and_left _ _ m.ends in
      let size = eqb-true (last + 2) (length text) (and_right (starts_with last_line (drop last text)) _ m.ends) in
      let start : Spans text 0 first_line 17 = spans-bytes first_line (omega arith) m.first in
      let front = spans-then (spans-then start m.nodes.spans) m.edges.spans in
      rw size at (spans-then front (spans-bytes last_line front.inside last-stands))

  pub matches-shown : Shown text (take n numbers) (take count targets)
  unfolding shown text_of
  matches-shown =
      let few = matches-few in
      let some = m.some in
      let more = m.no_more in
      record {
        shows = record {
          few-machines = omega (arith, numbers-length);
          few-groups = omega (arith, targets-length);
          all-groups = targets-length ∙ sym own-count;
          inside = λ a k t. rw targets-length (own-inside a k t);
        };
        some = omega (arith, numbers-length);
        no_more = omega (arith, numbers-length, targets-length);
        used = λ k l. own-used k (omega (arith, targets-length));
        text-is = ap₂ (λ nodes edges. first_line ++ nodes ++ edges ++ last_line) own-nodes own-edges ∙ spans-whole whole;
      }
