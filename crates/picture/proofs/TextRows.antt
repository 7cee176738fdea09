-- The text of a picture, and its bytes, row by row.
-- Assumes nothing.
use Prim.Native.Nat.{ℕ, zero, suc, ◌+◌, ◌-◌, ◌≤◌, ◌<◌}
use mathlib.Core.Path.{◌≡◌, refl, sym, ap, ap₂, ◌∙◌}
use mathlib.Core.List.{List, [], ◌∷◌, ◌++◌, map, flat_map}
use mathlib.Core.Bool.{Bool, true, false}
use native.Mathlib.Omega.{arith}
use borrow.Author.Tests.{lt-ltb, ltb-true}
use lib.ListN.{length, get_or, take}
use lib.Seq.{length-take-le, get_or-take}
use Rattle.common.specs.Bits.{bit}
use Rattle.common.specs.Lists.{up_to, filter}
use Rattle.common.proofs.Bools.{false-of-not-true, and_left}
use Rattle.common.proofs.Lists.{filter-cong}
use Rattle.common.proofs.Members.{up_to-below}
use Rattle.common.proofs.Sums.{flat_map-flat_map, flat_map-map, flat_map-cong}
use Rattle.sets.specs.Kept.Sets.{elements}
use Rattle.plan.specs.Groups.{members}
use Rattle.plan.specs.Kept.Partition.{MemberSets}
use Rattle.plan.proofs.ModeDigits.{filter-skip}
use Rattle.picture.specs.Picture.{Edge, edge, edges_by, picture_bytes}
use Rattle.picture.specs.Text.{first_line, last_line, node_line, edge_line, text_of}
use Rattle.picture.specs.Kept.Rows.{node_of, edges_of, node_row, pair_row, rows_upto, rows_of, text_rows}
use Rattle.picture.specs.Kept.Shown.{Shows, shown}

-- none of those from n on
filter-past : (p : ℕ → Bool) (n d : ℕ) → ((k : ℕ) → n ≤ k → p k ≡ false) → filter p (up_to (n + d)) ≡ filter p (up_to n)
filter-past p n zero none = let e : n + 0 ≡ n = omega arith in rw e refl
filter-past p n (suc d) none =
    let e : n + suc d ≡ suc (n + d) = omega arith in
    rw (e, filter-skip p (n + d) (none (n + d) (omega arith))) (filter-past p n d none)

elements-below : (s n : ℕ) → n ≤ 64 → ((k : ℕ) → bit s k ≡ true → k < n) → elements s ≡ filter (bit s) (up_to n)
unfolding elements
elements-below s n few small =
    let e : n + (64 - n) ≡ 64 = omega arith in
    ap (λ k. filter (bit s) (up_to k)) (sym e)
    ∙ filter-past (bit s) n (64 - n) (λ k h. false-of-not-true (λ t. let l = small k t in omega arith))

-- The nodes

module _ {numbers sets : List ℕ} (m : MemberSets numbers sets) (few : length numbers ≤ 32) where
  set-members : (k : ℕ) → k < 32 → elements (get_or sets k 0) ≡ members numbers k
  unfolding members
  set-members k h =
      elements-below (get_or sets k 0) (length numbers) (omega arith)
      (λ i t. ltb-true i (length numbers) (and_left _ _ (sym (m.bits k i h) ∙ t)))
      ∙ filter-cong _ _ (up_to (length numbers)) (λ i i-in.
      m.bits k i h ∙ rw (lt-ltb i (length numbers) (up_to-below (length numbers) i-in)) refl)

  node_row-at : (k : ℕ) → k < 32 → node_row (get_or sets k 0) k ≡ node_line numbers k
  unfolding node_of node_line
  node_row-at k h = rw (set-members k h) refl

  nodes-are : (n : ℕ) → n ≤ 32 → n ≤ length sets → rows_of node_row (take n sets) ≡ flat_map (node_line numbers) (up_to n)
  unfolding rows_upto
  nodes-are n small h =
      rw (length-take-le n sets h)
      (flat_map-cong _ _ (up_to n) (λ k k-in.
      let l = up_to-below n k-in in
      ap (λ s. node_row s k) (get_or-take n sets k 0 l) ∙ node_row-at k (omega arith)))

-- The edges

module _ {numbers targets : List ℕ} (h : Shows numbers targets) where
  abbrev joined : ℕ → ℕ → Bool
  joined a k = bit (get_or targets a 0) k

  edges_are : (g : Edge → List ℕ) → flat_map g (edges_by joined (length targets))
      ≡ rows_of (λ set a. flat_map (λ k. g (edge a k)) (elements set)) targets
  unfolding edges_by rows_upto
  edges_are g =
      let n = length targets in
      flat_map-flat_map g (λ a. map (edge a) (filter (joined a) (up_to n))) (up_to n)
      ∙ flat_map-cong _ _ (up_to n) (λ a a_in.
      flat_map-map g (edge a) (filter (joined a) (up_to n))
      ∙ ap (flat_map (λ k. g (edge a k)))
      (sym (elements-below (get_or targets a 0) n (omega (arith, h.few-groups)) (h.inside a))))

  pub text-rows : {sets : List ℕ} → MemberSets numbers sets → length sets ≡ 32
      → text_of (shown numbers targets) ≡ text_rows (take (length targets) sets) targets
  unfolding text_of shown text_rows edges_of
  text-rows {sets} m long =
      let n = length targets in
      let nodes = ap (λ k. flat_map (node_line numbers) (up_to k)) (sym h.all-groups)
      ∙ sym (nodes-are m h.few-machines n h.few-groups (omega (arith, h.few-groups))) in
      ap₂ (λ a b. first_line ++ a ++ b ++ last_line) nodes (edges_are edge_line)

  pub bytes-rows : picture_bytes (shown numbers targets) ≡ length numbers ∷ (numbers ++ rows_of pair_row targets)
  unfolding picture_bytes shown pair_row
  bytes-rows = ap (λ l. length numbers ∷ (numbers ++ l)) (edges_are (λ e. e.source ∷ e.target ∷ []))
