-- Reading a number: digits one after the other, up to where they end, and what is written is read back.
-- Assumes nothing.
use Prim.Native.Nat.{ℕ, zero, suc, ◌+◌, ◌*◌, ◌-◌, ◌/◌, ◌%◌, ◌^◌, ◌<◌, min}
use mathlib.Core.Path.{◌≡◌, refl, ap, ◌∙◌}
use mathlib.Core.List.{List, [], ◌∷◌, ◌++◌}
use mathlib.Core.Bool.{true, false}
use native.Mathlib.Nat.{pow-suc}
use native.Mathlib.Omega.{arith}
use borrow.Author.Tests.{ltb-true}
use lib.Dec.{ltb}
use Rattle.common.specs.Lists.{all}
use Rattle.common.proofs.Bools.{by_cases, and_left, and_right, true-false, false-of-not-true}
use Rattle.decimal.specs.Decimal.{digit, digits, decimal, is_digit, number_after, leading_number}
use Rattle.decimal.specs.Meaning.{NoDigitFirst}
use Rattle.decimal.proofs.Digits.{digits_are, digit-is, digit-from, digit-within}

-- Texts that do not begin with a digit

pub nothing-first : NoDigitFirst []
nothing-first l a b = omega arith

pub other-first : (b : ℕ) (rest : List ℕ) → is_digit b ≡ false → NoDigitFirst (b ∷ rest)
other-first b rest f l h k = true-false (digit-from b h k) f

pub no-digit-first : (b : ℕ) (rest : List ℕ) → NoDigitFirst (b ∷ rest) → is_digit b ≡ false
no-digit-first b rest h = false-of-not-true (λ t. let w = digit-within b t in h (omega arith) w.0 w.1)

-- Reading

-- where the text has no digit first, nothing more is read
number-ends : (a : ℕ) (rest : List ℕ) → NoDigitFirst rest → number_after a rest ≡ a
unfolding number_after
number-ends a [] h = refl
number-ends a (b ∷ rest) h = rw (no-digit-first b rest h)

-- what stands behind a text that does not go on with a digit does not matter
pub number-stays : (a : ℕ) (xs rest : List ℕ) → NoDigitFirst rest → number_after a (xs ++ rest) ≡ number_after a xs
unfolding number_after
number-stays a [] rest h = number-ends a rest h
number-stays a (b ∷ xs) rest h =
    by_cases (is_digit b) (λ t. rw t (number-stays (min (10 * a + (b - 48)) 65536) xs rest h)) (λ f. rw f)

-- digits are read one after the other
pub number-goes-on : (a : ℕ) (xs rest : List ℕ) → all is_digit xs ≡ true
    → number_after a (xs ++ rest) ≡ number_after (number_after a xs) rest
unfolding number_after all
number-goes-on a [] rest h = refl
number-goes-on a (b ∷ xs) rest h =
    rw (and_left (is_digit b) _ h) (number-goes-on (min (10 * a + (b - 48)) 65536) xs rest (and_right (is_digit b) _ h))

-- one digit
number-digit : (a d : ℕ) → d < 10 → 10 * a + d < 65536 → number_after a (digit d ∷ []) ≡ 10 * a + d
unfolding number_after digit
number-digit a d h l =
    let e : min (10 * a + (48 + d - 48)) 65536 ≡ 10 * a + d = omega arith in
    rw (digit-is d h) e

pub read-digits : (most n : ℕ) → n < 10 ^ most → n < 65536 → number_after 0 (digits most n) ≡ n
unfolding digits number_after
read-digits zero n h l = omega arith
read-digits (suc most) n h l =
    by_cases (ltb n 10)
    (λ t. rw t (number-digit 0 n (ltb-true n 10 t) (omega arith) ∙ omega arith))
    (λ f.
    rw f
    (number-goes-on 0 (digits most (n / 10)) (digit (n % 10) ∷ []) (digits_are most (n / 10))
    ∙ ap (λ a. number_after a (digit (n % 10) ∷ []))
    (read-digits most (n / 10) (omega (arith, pow-suc 10 most)) (omega arith))
    ∙ number-digit (n / 10) (n % 10) (omega arith) (omega arith)
    ∙ omega arith))

pub reads-back : (n : ℕ) (rest : List ℕ) → n < 65536 → NoDigitFirst rest → leading_number (decimal n ++ rest) ≡ n
unfolding leading_number decimal
reads-back n rest h e = number-stays 0 (digits 5 n) rest e ∙ read-digits 5 n (omega arith) h
