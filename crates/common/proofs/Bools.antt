-- What the value of a test made with `&&`, `||`, `not` or `cond` tells, and how to come to it.
-- Assumes nothing.
use mathlib.Core.Path.{◌≡◌, refl, sym, ◌∙◌}
use mathlib.Core.Logic.{◌⊎◌, inl, inr}
use mathlib.Core.Bool.{Bool, true, false, cond, not, ◌&&◌, ◌||◌, true≢false}

pub true-or-false : (b : Bool) → (b ≡ true) ⊎ (b ≡ false)
true-or-false true = inl refl
true-or-false false = inr refl

pub by_cases : {C : Type 0} (b : Bool) → (b ≡ true → C) → (b ≡ false → C) → C
by_cases true f g = f refl
by_cases false f g = g refl

pub true-false : {b : Bool} → b ≡ true → b ≡ false → ⊥
true-false t f = true≢false (sym t ∙ f)

-- a test that cannot be false is true, and the other way round
pub true-of-not-false : {b : Bool} → (b ≡ false → ⊥) → b ≡ true
true-of-not-false {b = true} h = refl
true-of-not-false {b = false} h = absurd (h refl)

pub false-of-not-true : {b : Bool} → (b ≡ true → ⊥) → b ≡ false
false-of-not-true {b = true} h = absurd (h refl)
false-of-not-true {b = false} h = refl

-- two tests that are true together are the same
pub bool-ext : {a b : Bool} → (a ≡ true → b ≡ true) → (b ≡ true → a ≡ true) → a ≡ b
bool-ext {a = true} {b} f g = sym (f refl)
bool-ext {a = false} {b = true} f g = g refl
bool-ext {a = false} {b = false} f g = refl

pub not_of_false : {b : Bool} → b ≡ false → not b ≡ true
not_of_false e = rw e

pub not-of-true : {b : Bool} → b ≡ true → not b ≡ false
not-of-true e = rw e

pub and_intro : {a b : Bool} → a ≡ true → b ≡ true → a && b ≡ true
and_intro p q = cc

pub and_left : (a b : Bool) → a && b ≡ true → a ≡ true
and_left true b e = refl
and_left false b e = e

pub and_right : (a b : Bool) → a && b ≡ true → b ≡ true
and_right true b e = e
and_right false b e = absurd (true-false e refl)

pub and-false-left : {a : Bool} (b : Bool) → a ≡ false → a && b ≡ false
and-false-left b p = cc

pub and-false-right : (a : Bool) {b : Bool} → b ≡ false → a && b ≡ false
and-false-right true p = p
and-false-right false p = refl

pub and-false-cases : (a b : Bool) → a && b ≡ false → (a ≡ false) ⊎ (b ≡ false)
and-false-cases true b e = inr e
and-false-cases false b e = inl refl

pub or_left : {a : Bool} (b : Bool) → a ≡ true → a || b ≡ true
or_left b p = cc

pub or_right : (a : Bool) {b : Bool} → b ≡ true → a || b ≡ true
or_right true p = refl
or_right false p = p

pub or_cases : (a b : Bool) → a || b ≡ true → (a ≡ true) ⊎ (b ≡ true)
or_cases true b e = inl refl
or_cases false b e = inr e

pub or-false-intro : {a b : Bool} → a ≡ false → b ≡ false → a || b ≡ false
or-false-intro p q = cc

pub or-false-left : (a b : Bool) → a || b ≡ false → a ≡ false
or-false-left true b e = e
or-false-left false b e = refl

pub or-false-right : (a b : Bool) → a || b ≡ false → b ≡ false
or-false-right true b e = absurd (true-false refl e)
or-false-right false b e = e

module _ {A : Type 0} {b : Bool} (x y : A) where
  pub cond-true : b ≡ true → cond b x y ≡ x
  cond-true e = rw e

  pub cond-false : b ≡ false → cond b x y ≡ y
  cond-false e = rw e
