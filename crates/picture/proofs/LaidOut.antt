-- The text of a picture is laid out as said: its lines in order, and the bytes of each.
-- Assumes nothing.
use Prim.Native.Nat.{ℕ, ◌<◌}
use mathlib.Core.Path.{◌≡◌, refl}
use mathlib.Core.List.{List, [], ◌∷◌, ◌++◌, map, flat_map, append_assoc, append-nil}
use native.Mathlib.Omega.{arith}
use lib.ListN.{length, length-map}
use Rattle.common.specs.Lists.{up_to}
use Rattle.common.proofs.Members.{get_or-map, length-map-up_to, get_or-map-up_to}
use Rattle.decimal.specs.Decimal.{decimal}
use Rattle.plan.specs.Groups.{group_count, members}
use Rattle.picture.specs.Picture.{Edge, edge, Picture}
use Rattle.picture.specs.Text.{line_start, labels, node_line, edge_line, text_of}
use Rattle.picture.specs.Layout.{Spaced, one, more, Lines, empty, next, NodeLine, EdgeLine, LaidOut}
use Rattle.picture.specs.Kept.Rows.{label_start, label_end}
use Rattle.picture.proofs.DrawableMeans.{Drawable, group-used}

-- numbers behind the first, each behind a space
numbers-spaced : (i : ℕ) (is : List ℕ) → Spaced (i ∷ is) (decimal i ++ labels 32 is)
unfolding labels
numbers-spaced i [] = rw append-nil (one i)
numbers-spaced i (j ∷ is) = rw append_assoc at (more i (numbers-spaced j is))

-- the quote stands before the label, or ends what stands there
quote-moved : (a b label c : List ℕ) → a ++ b ++ (34 ∷ label) ++ c ≡ a ++ (b ++ 34 ∷ []) ++ label ++ c
quote-moved a b label c = simp append_assoc

-- lines one behind the other, of one list and then of another
module _ {A : Type 0} (line : A → List ℕ) where
  lines-before : (xs : List A) {rest : List (List ℕ)} {text : List ℕ} → Lines rest text
      → Lines (map line xs ++ rest) (flat_map line xs ++ text)
  unfolding flat_map
  lines-before [] h = h
  lines-before (x ∷ xs) h = rw append_assoc (next (line x) (lines-before xs h))

  lines-all : (xs : List A) → Lines (map line xs) (flat_map line xs)
  unfolding flat_map
  lines-all [] = empty
  lines-all (x ∷ xs) = next (line x) (lines-all xs)

module _ (p : Picture) where
  edge-said : (e : Edge) → EdgeLine p e (edge_line e)
  unfolding edge_line line_start
  edge-said e = simp append_assoc

  module _ (k : ℕ) where
    node-says : (i : ℕ) (is : List ℕ) → members p.groups k ≡ i ∷ is → NodeLine p k (node_line p.groups k)
    unfolding node_line line_start labels
    node-says i is e =
        record {
          label = decimal i ++ labels 32 is;
          machines = rw e (numbers-spaced i is);
          says = rw e (quote-moved (line_start k) label_start (decimal i ++ labels 32 is) label_end);
        }

    node-said : 0 < length (members p.groups k) → NodeLine p k (node_line p.groups k)
    node-said h = go (members p.groups k) refl
      where
        go : (is : List ℕ) → members p.groups k ≡ is → NodeLine p k (node_line p.groups k)
        go [] e = absurd (let f : ⊥ = omega (arith, rw e at h) in f)
        go (i ∷ is) e = node-says i is e

  pub laid_out : Drawable p → LaidOut p (text_of p)
  unfolding text_of
  laid_out d =
      let node = node_line p.groups in
      let n = group_count p.groups in
      record {
        nodes = map node (up_to n);
        node-count = length-map-up_to node n;
        node_at = λ k h. rw (get_or-map-up_to node [] h) (node-said k (group-used p d k h));
        edges = map edge_line p.edges;
        edge_count = length-map p.edges edge_line;
        edge_at = λ i h. rw (get_or-map edge_line p.edges i (edge 0 0) [] h) (edge-said _);
        between = flat_map node (up_to n) ++ flat_map edge_line p.edges;
        in_order = lines-before node (up_to n) (lines-all edge_line p.edges);
        says = simp append_assoc;
      }
