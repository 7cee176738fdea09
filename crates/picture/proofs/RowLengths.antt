-- The lengths of a group's rows, by how many members the set has and how many digits these have.
-- Assumes nothing.
use Prim.Native.Nat.{ℕ, ◌+◌, ◌*◌, ◌≤◌}
use mathlib.Core.Path.{◌≡◌, refl, ap}
use mathlib.Core.List.{List, map}
use native.Mathlib.Omega.{arith}
use native.Mathlib.Nat.{mul_comm, mul-le-mul}
use lib.ListN.{length}
use Rattle.common.specs.Lists.{sum}
use Rattle.common.proofs.Lists.{map-cong}
use Rattle.common.proofs.Sums.{sum-add, sum-constant, length-flat_map, length-twos}
use Rattle.sets.specs.Kept.Sets.{elements}
use Rattle.picture.specs.Picture.{edge}
use Rattle.picture.specs.Text.{edge_line}
use Rattle.picture.specs.Kept.Rows.{edges_of, node_row, edge_row, pair_row}
use Rattle.picture.proofs.Labels.{labels_length}
use Rattle.picture.proofs.Pieces.{edge-length, node-length}
use Rattle.picture.proofs.SetSizes.{width}

-- something of the same length, and a number, for each member
each-with : (c : ℕ) (is : List ℕ) → sum (map (λ i. c + width i) is) ≡ c * length is + sum (map width is)
each-with c is =
    omega (
      arith,
      sum-add (λ i. c) width is,
      sum-constant (λ i. c) c is (λ i m. refl),
      mul_comm c (length is),
    )

pub lines-short : {w n : ℕ} → w ≤ 2 → n ≤ 64 → (10 + w) * n ≤ 768
lines-short {w} {n} hw hn =
    let h : 10 + w ≤ 12 = omega arith in
    omega (arith, mul-le-mul h hn)

module _ (set : ℕ) {size digits : ℕ} (es : size ≡ length (elements set))
    (ed : digits ≡ sum (map width (elements set))) where
  pub node-adds : (k : ℕ) {w : ℕ} → w ≡ width k → 15 + w + size + digits ≡ length (node_row set k)
  node-adds k ew =
      omega (arith, node-length k (elements set), labels_length 34 (elements set), each-with 1 (elements set))

  pub edges-add : (a : ℕ) {w : ℕ} → w ≡ width a → (10 + w) * size + digits ≡ length (edge_row set a)
  unfolding edges_of
  edges-add a ew =
      let each = ap sum (map-cong (λ k. length (edge_line (edge a k))) (λ k. (10 + width a) + width k) (elements set)
      (λ k m. edge-length a k)) in
      rw (ew, es, ed)
      (omega (
        arith,
        length-flat_map (λ k. edge_line (edge a k)) (elements set),
        each,
        each-with (10 + width a) (elements set),
      ))

pub pairs-add : (set : ℕ) {size : ℕ} → size ≡ length (elements set) → (a : ℕ) → 2 * size ≡ length (pair_row set a)
unfolding pair_row
pairs-add set es a = omega (arith, length-twos (λ k. a) (λ k. k) (elements set))
