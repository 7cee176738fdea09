-- "For each that": tests of the members of a list that have a property, written `not (p x) || q x`.
-- Assumes nothing.
use mathlib.Core.Path.{◌≡◌, refl}
use mathlib.Core.List.{List, Memᴰ}
use mathlib.Core.Bool.{Bool, true, false, not, ◌&&◌, ◌||◌}
use Rattle.common.specs.Lists.{all}
use Rattle.common.proofs.Lists.{all-intro}

pub when-known : {a b : Bool} → a ≡ true → not a || b ≡ true → b ≡ true
when-known t h = rw t at h

pub when-intro : (a b : Bool) → (a ≡ true → b ≡ true) → not a || b ≡ true
when-intro true b h = h refl
when-intro false b h = refl

pub unless-known : {a b : Bool} → a ≡ false → a || b ≡ true → b ≡ true
unless-known f h = rw f at h

pub all-when-intro : {A : Type 0} (p q : A → Bool) (xs : List A) → ((x : A) → Memᴰ x xs → p x ≡ true → q x ≡ true)
    → all (λ x. not (p x) || q x) xs ≡ true
all-when-intro p q xs h = all-intro _ xs (λ x l. when-intro (p x) (q x) (h x l))

-- a conjunction that fails where its first part holds
pub and-known : {a b : Bool} → a ≡ true → a && b ≡ false → b ≡ false
and-known t h = rw t at h

pub and-when-false : (a b : Bool) → (a ≡ true → b ≡ false) → a && b ≡ false
and-when-false true b h = h refl
and-when-false false b h = refl
