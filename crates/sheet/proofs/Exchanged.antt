-- A list with another element, or none, in the place of one: its length and its elements.
-- Assumes nothing.
use Prim.Native.Nat.{ℕ, suc, ◌+◌, ◌-◌, ◌≤◌, ◌<◌}
use mathlib.Core.Path.{◌≡◌, sym, ap, ap₂, ◌∙◌}
use mathlib.Core.List.{List, [], ◌∷◌, ◌++◌, map, map-append}
use native.Mathlib.Omega.{arith}
use lib.ListN.{length, get_or, set, take, drop, length-append, length-set, length-drop, get_or-append}
use lib.Seq.{length-take-le, set_split, take_at, drop-append-add, get_or-append-add, get_or-take, get_or-drop}
use lib.Seq.{get_or-set_same, get_or-set_other}
use Rattle.common.proofs.Lists.{map-take, map-drop}
use Rattle.sheet.specs.Amend.{exchanged}

-- what stands in the place of the element between those before and those behind it
pub exchanged-at : {A : Type 0} (before : List A) (old : A) (behind new : List A) (x : ℕ) → length before ≡ x
    → exchanged x new (before ++ (old ∷ behind)) ≡ before ++ (new ++ behind)
unfolding exchanged
exchanged-at before old behind new x e =
    let next : suc x ≡ length before + 1 = omega arith in
    let gone : drop (suc x) (before ++ (old ∷ behind)) ≡ behind = rw next (drop-append-add before (old ∷ behind) 1) in
    ap₂ (λ l r. l ++ (new ++ r)) (take_at before (old ∷ behind) x e) gone

pub map-exchanged : {A B : Type 0} (f : A → B) (x : ℕ) (new xs : List A)
    → map f (exchanged x new xs) ≡ exchanged x (map f new) (map f xs)
unfolding exchanged
map-exchanged f x new xs =
    map-append f (take x xs) (new ++ drop (suc x) xs)
    ∙ ap₂ ◌++◌ (map-take f x xs)
    (map-append f new (drop (suc x) xs) ∙ ap (λ l. map f new ++ l) (map-drop f (suc x) xs))

module _ {A : Type 0} (xs : List A) (d : A) (x : ℕ) (inside : x < length xs) where
  -- another one
  module _ (new : A) where
    pub replaced-set : exchanged x (new ∷ []) xs ≡ set xs x new
    unfolding exchanged
    replaced-set = sym (set_split xs x new inside)

    pub replaced-length : length (exchanged x (new ∷ []) xs) ≡ length xs
    replaced-length = ap length replaced-set ∙ length-set xs x new

    pub replaced-here : get_or (exchanged x (new ∷ []) xs) x d ≡ new
    replaced-here = ap (λ l. get_or l x d) replaced-set ∙ get_or-set_same xs x new d inside

    pub replaced-other : (i : ℕ) → (i ≡ x → ⊥) → get_or (exchanged x (new ∷ []) xs) i d ≡ get_or xs i d
    replaced-other i o = ap (λ l. get_or l i d) replaced-set ∙ get_or-set_other xs x i new d o

  -- or none
  pub gone-length : suc (length (exchanged x [] xs)) ≡ length xs
  unfolding exchanged
  gone-length =
      let a = length-take-le x xs (omega arith) in
      let b = length-drop (suc x) xs in
      omega (arith, length-append (take x xs) (drop (suc x) xs))

  pub gone-before : (i : ℕ) → i < x → get_or (exchanged x [] xs) i d ≡ get_or xs i d
  unfolding exchanged
  gone-before i h =
      let a = length-take-le x xs (omega arith) in
      get_or-append (take x xs) (drop (suc x) xs) d i (omega arith) ∙ get_or-take x xs i d h

  pub gone-behind : (i : ℕ) → x ≤ i → get_or (exchanged x [] xs) i d ≡ get_or xs (suc i) d
  unfolding exchanged
  gone-behind i h =
      let a = length-take-le x xs (omega arith) in
      let n : ℕ = i - x in
      let e : i ≡ length (take x xs) + n = omega arith in
      let f : suc x + n ≡ suc i = omega arith in
      ap (λ k. get_or (take x xs ++ drop (suc x) xs) k d) e ∙ get_or-append-add (take x xs) (drop (suc x) xs) n d
      ∙ get_or-drop (suc x) xs n d ∙ ap (λ k. get_or xs k d) f
