-- Places of moves, 0 for a withdrawn one: the number that a move has among those that stand, and another place for one.
-- Assumes nothing.
use Prim.Native.Nat.{ℕ, suc, ◌<◌}
use mathlib.Core.Path.{◌≡◌, refl, sym, ap, ◌∙◌}
use mathlib.Core.Bool.{Bool, true, false, not}
use mathlib.Core.List.{List, [], ◌∷◌, ◌++◌, map, map-append}
use native.Mathlib.Omega.{arith}
use borrow.Author.Tests.{eqb-false, ne_eqb}
use lib.Dec.{eqb}
use lib.ListN.{length, get_or, set, take, drop, length-map}
use lib.Seq.{split_at, set_split, get_or-take, length-take-le}
use Rattle.common.specs.Lists.{any, filter, position}
use Rattle.common.proofs.Bools.{by_cases, true-false}
use Rattle.common.proofs.Lists.{any-fails, any-map, filter-append, filter-keeps, filter-from, filter-holds}
use Rattle.common.proofs.Members.{mem_index}
use Rattle.common.proofs.Search.{position-split}
use Rattle.sheet.specs.Amend.{exchanged}
use Rattle.sheet.specs.Kept.Scanned.{is_place}
use Rattle.sheet.proofs.Exchanged.{exchanged-at}

pub place_is : {p : ℕ} → 0 < p → is_place p ≡ true
unfolding is_place
place_is {p} h = ap not (ne_eqb p 0 (λ e. omega arith))

pub is-place : {p : ℕ} → is_place p ≡ true → 0 < p
unfolding is_place
is-place {p} t = by_cases (eqb p 0) (λ y. absurd (true-false t (ap not y))) (λ n. omega (arith, eqb-false p 0 n))

-- a place of a move that stands
module _ (places : List ℕ) (n : ℕ) (inside : n < length places) (stands : 0 < get_or places n 0) where
  abbrev before : List ℕ
  before = filter is_place (take n places)

  abbrev behind : List ℕ
  behind = filter is_place (drop (suc n) places)

  -- it stands between those before and those behind it
  pub between : filter is_place places ≡ before ++ (get_or places n 0 ∷ behind)
  between =
      ap (filter is_place) (split_at places n 0 inside)
      ∙ filter-append is_place (take n places) (get_or places n 0 ∷ drop (suc n) places)
      ∙ ap (λ l. before ++ l) (filter-keeps is_place _ _ (place_is stands))

  -- with another place, or none
  pub place-exchanged : (q : ℕ) → filter is_place (set places n q)
      ≡ exchanged (length before) (filter is_place (q ∷ [])) (filter is_place places)
  place-exchanged q =
      ap (filter is_place) (set_split places n q inside)
      ∙ filter-append is_place (take n places) (q ∷ drop (suc n) places)
      ∙ ap (λ l. before ++ l) (filter-append is_place (q ∷ []) (drop (suc n) places))
      ∙ sym (ap (exchanged (length before) (filter is_place (q ∷ []))) between
      ∙ exchanged-at before (get_or places n 0) behind (filter is_place (q ∷ [])) (length before) refl)

  -- the first of the moves there that
  module _ {A : Type 0} (f : ℕ → A) (p : A → Bool) (here : p (f (get_or places n 0)) ≡ true)
      (others : (j : ℕ) → j < n → 0 < get_or places j 0 → p (f (get_or places j 0)) ≡ false) where
    none_before : any p (map f before) ≡ false
    none_before =
        any-map p f before
        ∙ any-fails (λ x. p (f x)) before (λ x i.
        let k = mem_index 0 (filter-from is_place (take n places) i) in
        let few = length-take-le n places (omega arith) in
        let e : get_or places k.0 0 ≡ x = sym (get_or-take n places k.0 0 (omega arith)) ∙ k.2 in
        let w = is-place (filter-holds is_place (take n places) i) in
        rw (← e) (others k.0 (omega arith) (rw e w)))

    pub rank_is : position p (map f (filter is_place places)) ≡ length before
    rank_is =
        ap (λ l. position p (map f l)) between
        ∙ ap (position p) (map-append f before (get_or places n 0 ∷ behind))
        ∙ position-split p (map f before) (f (get_or places n 0)) (map f behind) none_before here ∙ length-map before f
