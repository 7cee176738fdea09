-- The places of the moves that stand close up.
-- Assumes nothing.
use Prim.Native.Nat.{ℕ, ◌+◌, ◌-◌, ◌≤◌, ◌<◌}
use mathlib.Core.Path.{◌≡◌, refl, sym, ap, ap₂, ◌∙◌}
use mathlib.Core.Bool.{true, false, not}
use mathlib.Core.List.{List, [], ◌∷◌, ◌++◌, append-nil}
use native.Mathlib.Numerals.{add-one}
use native.Mathlib.Omega.{arith}
use borrow.Author.Tests.{eq-eqb, ne_eqb}
use lib.ListN.{length, get_or, set, replicate, take, drop, take-append-drop, length-take}
use lib.Seq.{take-suc, get_or-drop}
use Rattle.common.specs.Lists.{filter, all, any, pad}
use Rattle.common.proofs.Lists.{all-intro, any-fails, filter-all, filter-append, filter_none, filter-snoc-keeps, filter-snoc-drops, length-filter}
use Rattle.common.proofs.Members.{mem_index}
use Rattle.common.proofs.Pad.{get_or-zeros, pad-nil, set-pad}
use Rattle.common.proofs.Snoc.{length-snoc}
use Rattle.sheet.specs.Kept.Scanned.{is_place}

-- those among the first v places, and how many they are
pub record Closing (places packed : List ℕ) (n v : ℕ) : Type 0 where
  pub count : n ≡ length (filter is_place (take v places))
  pub array : packed ≡ pad 250 (filter is_place (take v places))

pub closing-nothing : (places : List ℕ) → Closing places (replicate 250 0) 0 0
unfolding filter
closing-nothing places = record { count = refl; array = sym (pad-nil 250) }

module _ {places packed : List ℕ} {n v : ℕ} (h : Closing places packed n v) where
  pub closing-few : n ≤ v
  closing-few = omega (arith, h.count, length-filter is_place (take v places), length-take v places)

  -- one place more
  module _ (l : v < length places) where
    pub closing-kept : (get_or places v 0 ≡ 0 → ⊥) → n < 250 → Closing places (set packed n (get_or places v 0)) (n + 1) (v + 1)
    unfolding is_place
    closing-kept o room =
        let more : filter is_place (take (v + 1) places) ≡ filter is_place (take v places) ++ (get_or places v 0 ∷ []) =
        rw (add-one v, take-suc places v 0 l) (filter-snoc-keeps is_place _ _ (ap not (ne_eqb _ _ o))) in
        record {
          count = rw more (omega (arith, h.count, length-snoc (filter is_place (take v places)) (get_or places v 0)));
          array = rw (more, h.array, h.count) (set-pad 250 _ _ (omega (arith, h.count)));
        }

    pub closing-passed : get_or places v 0 ≡ 0 → Closing places packed n (v + 1)
    unfolding is_place
    closing-passed z =
        let same : filter is_place (take (v + 1) places) ≡ filter is_place (take v places) =
        rw (add-one v, take-suc places v 0 l) (filter-snoc-drops is_place _ _ (ap not (eq-eqb _ _ z))) in
        record { count = rw same h.count; array = rw same h.array }

  -- no place is behind
  module _ {moves : ℕ} (past : moves ≤ v) (behind : (i : ℕ) → moves ≤ i → get_or places i 0 ≡ 0) where
    all_are : filter is_place places ≡ filter is_place (take v places)
    unfolding is_place
    all_are =
        let none : any is_place (drop v places) ≡ false =
        any-fails is_place (drop v places) (λ x m.
        let i = mem_index 0 m in
        ap not (eq-eqb x 0 (sym i.2 ∙ get_or-drop v places i.0 0 ∙ behind _ (omega arith)))) in
        ap (filter is_place) (sym (take-append-drop v places))
        ∙ filter-append is_place (take v places) (drop v places)
        ∙ ap (λ xs. filter is_place (take v places) ++ xs) (filter_none is_place (drop v places) none)
        ∙ append-nil _

    pub closing-count : n ≡ length (filter is_place places)
    closing-count = rw all_are h.count

    pub closing-array : packed ≡ pad 250 (filter is_place places)
    closing-array = rw all_are h.array

-- while none is withdrawn, all places are left
module _ (ps : List ℕ) (positive : (v : ℕ) → v < length ps → 0 < get_or ps v 0) where
  pub places-kept : filter is_place (pad 250 ps) ≡ ps
  unfolding pad is_place
  places-kept =
      let zeros : List ℕ = replicate (250 - length ps) 0 in
      let each : all is_place ps ≡ true =
      all-intro is_place ps (λ x i.
      let k = mem_index 0 i in
      ap not (ne_eqb x 0 (λ e. omega (arith, positive k.0 k.1, k.2)))) in
      let none : any is_place zeros ≡ false =
      any-fails is_place zeros (λ x i.
      let k = mem_index 0 i in
      ap not (eq-eqb x 0 (sym k.2 ∙ get_or-zeros (250 - length ps) k.0))) in
      filter-append is_place ps zeros ∙ ap₂ ◌++◌ (filter-all is_place ps each) (filter_none is_place zeros none)
      ∙ append-nil ps
