-- The bytes of labels, nodes and edges, part by part.
-- Assumes nothing.
use Prim.Native.Nat.{ℕ, ◌<◌}
use mathlib.Core.Path.{◌≡◌, refl, sym, ap, ◌∙◌}
use mathlib.Core.List.{List, [], ◌∷◌, ◌++◌, flat_map, append_assoc, append-nil}
use mathlib.Core.Bool.{true}
use native.Mathlib.Omega.{arith}
use lib.ListN.{length}
use Rattle.common.proofs.Sums.{flat_map-snoc}
use Rattle.decimal.specs.Decimal.{decimal, starts_with}
use Rattle.decimal.specs.Meaning.{NoDigitFirst}
use Rattle.picture.specs.Picture.{edge}
use Rattle.picture.specs.Text.{line_start, labels, edge_line}
use Rattle.picture.specs.Kept.Rows.{label_start, label_end, arrow, edge_end, node_of, edges_of}
use Rattle.picture.proofs.Spanning.{starts-there}

-- Labels

-- the byte before the next number of a label
abbrev pub separator : ℕ → List ℕ → ℕ
separator first [] = first
separator first (i ∷ is) = 32

pub labels-snoc : (first i : ℕ) (is : List ℕ)
    → labels first (is ++ (i ∷ [])) ≡ labels first is ++ (separator first is ∷ decimal i)
unfolding labels
labels-snoc first i [] = ap (λ l. first ∷ l) (append-nil (decimal i))
labels-snoc first i (j ∷ []) =
    ap (λ l. first ∷ l) (ap (λ l. decimal j ++ l) (labels-snoc 32 i []) ∙ sym (append_assoc (decimal j) _ _))
labels-snoc first i (j ∷ k ∷ is) =
    ap (λ l. first ∷ l) (ap (λ l. decimal j ++ l) (labels-snoc 32 i (k ∷ is)) ∙ sym (append_assoc (decimal j) _ _))

pub separator-snoc : (first i : ℕ) (is : List ℕ) → separator first (is ++ (i ∷ [])) ≡ 32
separator-snoc first i [] = refl
separator-snoc first i (j ∷ is) = refl

pub separator-some : (is : List ℕ) → 0 < separator 34 is
separator-some [] = omega arith
separator-some (i ∷ is) = omega arith

pub separator-later : (is : List ℕ) → 0 < length is → separator 34 is ≡ 32
separator-later [] l = omega arith
separator-later (i ∷ is) l = refl

-- no digit stands behind a number of a label
pub label-breaks : (is rest : List ℕ) → NoDigitFirst (labels 32 is ++ (label_end ++ rest))
unfolding labels
label-breaks [] rest l a b = omega arith
label-breaks (i ∷ is) rest l a b = omega arith

-- Nodes

-- how the line of a node begins, up to the quote
abbrev pub node_start : ℕ → List ℕ
node_start k = line_start k ++ (label_start ++ (34 ∷ []))

pub start-parts : (k : ℕ) (more : List ℕ) → node_start k ++ more ≡ line_start k ++ label_start ++ (34 ∷ more)
start-parts k more =
    append_assoc (line_start k) (label_start ++ (34 ∷ [])) more ∙ sym (append_assoc (line_start k) label_start (34 ∷ more))

pub node-parts : (k : ℕ) (is rest : List ℕ) → node_of k is ++ rest ≡ line_start k ++ label_start ++ (labels 34 is ++ label_end ++ rest)
unfolding node_of
node-parts k is rest = simp append_assoc

pub node-begins : (k : ℕ) (is rest : List ℕ) → 0 < length is → starts_with (node_start k) (node_of k is ++ rest) ≡ true
unfolding labels
node-begins k [] rest l = absurd (let f : ⊥ = omega arith in f)
node-begins k (i ∷ is) rest l =
    starts-there (node_start k) (decimal i ++ labels 32 is ++ label_end ++ rest)
    (node-parts k (i ∷ is) rest ∙ sym (start-parts k (decimal i ++ labels 32 is ++ label_end ++ rest)))

-- Edges

-- how the line of an edge from a begins
abbrev pub edge_start : ℕ → List ℕ
edge_start a = line_start a ++ arrow

edge-parts : (a k : ℕ) (rest : List ℕ) → edge_line (edge a k) ++ rest ≡ edge_start a ++ (decimal k ++ (edge_end ++ rest))
unfolding edge_line
edge-parts a k rest = simp append_assoc

pub row-parts : (a k : ℕ) (ks rest : List ℕ)
    → edges_of a (k ∷ ks) ++ rest ≡ edge_start a ++ (decimal k ++ (edge_end ++ (edges_of a ks ++ rest)))
unfolding edges_of flat_map
row-parts a k ks rest =
    append_assoc (edge_line (edge a k)) (edges_of a ks) rest ∙ edge-parts a k (edges_of a ks ++ rest)

pub row-none : (a : ℕ) → edges_of a [] ≡ []
unfolding edges_of flat_map
row-none a = refl

pub row_snoc : (a k : ℕ) (ks : List ℕ) → edges_of a (ks ++ (k ∷ [])) ≡ edges_of a ks ++ edge_line (edge a k)
unfolding edges_of
row_snoc a k ks = flat_map-snoc (λ j. edge_line (edge a j)) ks k
