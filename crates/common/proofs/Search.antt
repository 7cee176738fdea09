-- Laws of the place of the first that, and of the first that.
-- Assumes nothing.
use Prim.Native.Nat.{ℕ, zero, suc, ◌≤◌, ◌<◌, zero-le, suc-le-suc}
use mathlib.Core.Path.{◌≡◌, refl, sym, ap, ◌∙◌}
use mathlib.Core.List.Memᴰ.{head}
use mathlib.Core.List.Memᴰ.{tail}
use mathlib.Core.List.{List, [], ◌∷◌, ◌++◌, Memᴰ}
use mathlib.Core.Bool.{Bool, true, false, ◌&&◌}
use native.Mathlib.Nat.{not-suc-le-zero}
use native.Mathlib.Omega.{arith}
use lib.ListN.{length, get_or, get_or-eq_default}
use Rattle.common.specs.Lists.{up_to, any, filter, position, find}
use Rattle.common.proofs.Bools.{by_cases, true-false, true-of-not-false, false-of-not-true, or-false-left, or-false-right}
use Rattle.common.proofs.Lists.{any-intro, any_some, any-fails}
use Rattle.common.proofs.Members.{mem-get_or, mem_index, up_to-mem, up_to-below, length-up_to, get_or-up_to}

-- The place of the first that, and the first that

module _ {A : Type 0} (p : A → Bool) where
  pub position_here : (x : A) (xs : List A) → p x ≡ true → position p (x ∷ xs) ≡ 0
  unfolding position
  position_here x xs t = rw t

  pub position_later : (x : A) (xs : List A) → p x ≡ false → position p (x ∷ xs) ≡ suc (position p xs)
  unfolding position
  position_later x xs f = rw f

  pub position-le : (xs : List A) → position p xs ≤ length xs
  unfolding position
  position-le [] = zero-le
  position-le (x ∷ xs) = by_cases (p x) (λ t. rw t zero-le) (λ f. rw f (suc-le-suc (position-le xs)))

  pub position-holds : (xs : List A) (d : A) → position p xs < length xs → p (get_or xs (position p xs) d) ≡ true
  unfolding position
  position-holds [] d h = absurd (not-suc-le-zero h)
  position-holds (x ∷ xs) d h =
      by_cases (p x)
      (λ t. rw (position_here x xs t) t)
      (λ f. rw (position_later x xs f) (position-holds xs d (omega (arith, rw (position_later x xs f) at h))))

  pub position-before : (xs : List A) (i : ℕ) (d : A) → i < position p xs → p (get_or xs i d) ≡ false
  unfolding position
  position-before [] i d h = absurd (not-suc-le-zero h)
  position-before (x ∷ xs) zero d h = false-of-not-true (λ t. omega (arith, position_here x xs t))
  position-before (x ∷ xs) (suc i) d h =
      by_cases (p x)
      (λ t. absurd (let f : ⊥ = omega (arith, position_here x xs t) in f))
      (λ f. position-before xs i d (omega (arith, position_later x xs f)))

  pub position-at-most : (xs : List A) (i : ℕ) (d : A) → p (get_or xs i d) ≡ true → position p xs ≤ i
  position-at-most xs i d t =
      let k : ¬ (i < position p xs) = λ l. true-false t (position-before xs i d l) in
      omega arith

  pub position_some : {x : A} {xs : List A} → Memᴰ x xs → p x ≡ true → position p xs < length xs
  position_some {x} {xs} m t =
      let r = mem_index x m in
      omega (arith, position-at-most xs r.0 x (ap p r.2 ∙ t))

  pub position-none : (xs : List A) → any p xs ≡ false → position p xs ≡ length xs
  unfolding any position
  position-none [] h = refl
  position-none (x ∷ xs) h =
      position_later x xs (or-false-left _ _ h) ∙ ap suc (position-none xs (or-false-right (p x) _ h))

  -- the place is the only one that holds, with none before it that does
  pub position-is : (xs : List A) (i : ℕ) (d : A) → i < length xs → p (get_or xs i d) ≡ true
      → ((j : ℕ) → j < i → p (get_or xs j d) ≡ false) → position p xs ≡ i
  position-is xs i d h t before =
      let k : ¬ (position p xs < i) = λ l. true-false (position-holds xs d (omega arith)) (before (position p xs) l) in
      omega (arith, position-at-most xs i d t)

  -- behind a list in which none is
  pub position-split : (xs : List A) (y : A) (ys : List A) → any p xs ≡ false → p y ≡ true
      → position p (xs ++ (y ∷ ys)) ≡ length xs
  unfolding any
  position-split [] y ys f t = position_here y ys t
  position-split (x ∷ xs) y ys f t =
      position_later x _ (or-false-left (p x) _ f) ∙ ap suc (position-split xs y ys (or-false-right (p x) _ f) t)

  pub find_first : (xs : List A) (d : A) → find p xs d ≡ get_or xs (position p xs) d
  unfolding find position
  find_first [] d = refl
  find_first (x ∷ xs) d = by_cases (p x) (λ t. rw t) (λ f. rw f (find_first xs d))

  pub find-holds : (xs : List A) (d : A) → any p xs ≡ true → p (find p xs d) ≡ true
  find-holds xs d h =
      let r = any_some p xs h in
      rw find_first (position-holds xs d (position_some r.1 r.2))

  pub find-mem : (xs : List A) (d : A) → any p xs ≡ true → Memᴰ (find p xs d) xs
  find-mem xs d h =
      let r = any_some p xs h in
      rw find_first (mem-get_or xs (position p xs) d (position_some r.1 r.2))

  pub find_none : (xs : List A) (d : A) → any p xs ≡ false → find p xs d ≡ d
  find_none xs d h = find_first xs d ∙ get_or-eq_default xs d (omega (arith, position-none xs h))

pub position-cong : {A : Type 0} (p q : A → Bool) (xs : List A) → ((x : A) → Memᴰ x xs → p x ≡ q x)
    → position p xs ≡ position q xs
unfolding position
position-cong p q [] h = refl
position-cong p q (x ∷ xs) h = rw (h x (head refl), position-cong p q xs (λ y m. h y (tail m)))

pub find-cong : {A : Type 0} (p q : A → Bool) (xs : List A) (d : A) → ((x : A) → Memᴰ x xs → p x ≡ q x)
    → find p xs d ≡ find q xs d
find-cong p q xs d h =
    find_first p xs d ∙ ap (λ k. get_or xs k d) (position-cong p q xs h) ∙ sym (find_first q xs d)

-- the first number that is at most any that
pub find-up_to-least : (p : ℕ → Bool) {n : ℕ} (d i : ℕ) → i < n → p i ≡ true → find p (up_to n) d ≤ i
find-up_to-least p {n} d i h t =
    let l = position-at-most p (up_to n) i d (ap p (get_or-up_to d h) ∙ t) in
    omega (arith, find_first p (up_to n) d, get_or-up_to {i = position p (up_to n)} {n = n} d (omega arith))

-- The first number below n that, where there is one

module _ (p : ℕ → Bool) (n d : ℕ) (some : any p (up_to n) ≡ true) where
  pub find-up_to-below : find p (up_to n) d < n
  find-up_to-below = up_to-below n (find-mem p (up_to n) d some)

  pub find-up_to-before : (j : ℕ) → j < find p (up_to n) d → p j ≡ false
  find-up_to-before j h =
      let r = any_some p (up_to n) some in
      let l : position p (up_to n) < n = rw length-up_to at (position_some p r.1 r.2) in
      let e : find p (up_to n) d ≡ position p (up_to n) = find_first p (up_to n) d ∙ get_or-up_to d l in
      let b : j < n = omega arith in
      ap p (sym (get_or-up_to d b)) ∙ position-before p (up_to n) j d (omega arith)

-- the first number below n that is the one with none before it

module _ (p : ℕ → Bool) {n : ℕ} (d : ℕ) where
  pub find-up_to-is : (i : ℕ) → i < n → p i ≡ true → ((j : ℕ) → j < i → p j ≡ false) → find p (up_to n) d ≡ i
  find-up_to-is i h t before =
      let some = any-intro p (up_to-mem h) t in
      let k : ¬ (find p (up_to n) d < i) = λ l. true-false (find-holds p (up_to n) d some) (before _ l) in
      omega (arith, find-up_to-least p d i h t)

  pub find-up_to-none : ((j : ℕ) → j < n → p j ≡ false) → find p (up_to n) d ≡ d
  find-up_to-none h = find_none p (up_to n) d (any-fails p (up_to n) (λ j m. h j (up_to-below n m)))

-- the first number below n that, by a search that answers n where there is none
module _ (p : ℕ → Bool) {n i : ℕ} (first : i ≡ find p (up_to n) n) where
  pub first_some : i < n → any p (up_to n) ≡ true
  first_some h = true-of-not-false (λ f. omega (arith, find_none p (up_to n) n f))

  pub first-place : i < n → find p (up_to n) 0 ≡ i
  first-place h =
      let some = first_some h in
      find-up_to-is p 0 i h (ap p first ∙ find-holds p (up_to n) n some)
      (λ j l. find-up_to-before p n n some j (omega arith))

  pub first-missing : n ≤ i → any p (up_to n) ≡ false
  first-missing h = false-of-not-true (λ t. omega (arith, find-up_to-below p n n t))

-- the first of those that
pub find-filter : {A : Type 0} (p q : A → Bool) (xs : List A) (d : A)
    → find p (filter q xs) d ≡ find (λ x. q x && p x) xs d
unfolding find filter
find-filter p q [] d = refl
find-filter p q (x ∷ xs) d =
    by_cases (q x)
    (λ t. rw t (by_cases (p x) (λ u. rw u) (λ u. rw u (find-filter p q xs d))))
    (λ f. rw f (find-filter p q xs d))
