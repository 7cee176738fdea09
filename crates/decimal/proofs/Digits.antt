-- The digits of a number: that they are digits, how many there are, and the first.
-- Assumes nothing.
use Prim.Native.Nat.{ℕ, zero, suc, ◌+◌, ◌/◌, ◌%◌, ◌^◌, ◌≤◌, ◌<◌}
use mathlib.Core.Path.{◌≡◌, refl, sym, ap, ◌∙◌}
use mathlib.Core.List.{[], ◌∷◌, ◌++◌, Memᴰ}
use mathlib.Core.Bool.{true, false}
use native.Mathlib.Nat.{pow-suc}
use native.Mathlib.Omega.{arith}
use borrow.Author.Tests.{ltb-true, ltb-false, lt-ltb, le-leb, leb-true}
use lib.Dec.{ltb, leb}
use lib.ListN.{length, get_or, length-append, get_or-append}
use Rattle.common.specs.Lists.{all}
use Rattle.common.proofs.Bools.{by_cases, and_intro, and_left, and_right}
use Rattle.common.proofs.Lists.{all-at, all_append}
use Rattle.decimal.specs.Decimal.{digit, digits, decimal, is_digit}

-- One step of writing

digits-one : (most n : ℕ) → n < 10 → digits (suc most) n ≡ digit n ∷ []
unfolding digits
digits-one most n h = rw (lt-ltb n 10 h)

digits_more : (most n : ℕ) → ltb n 10 ≡ false
    → digits (suc most) n ≡ digits most (n / 10) ++ (digit (n % 10) ∷ [])
unfolding digits
digits_more most n f = rw f

-- Digits

pub digit-from : (b : ℕ) → 48 ≤ b → b ≤ 57 → is_digit b ≡ true
unfolding is_digit
digit-from b h k = and_intro (le-leb 48 b h) (lt-ltb b 58 (omega arith))

pub digit-is : (d : ℕ) → d < 10 → is_digit (digit d) ≡ true
unfolding digit
digit-is d h = digit-from (48 + d) (omega arith) (omega arith)

pub digit-within : (b : ℕ) → is_digit b ≡ true → (48 ≤ b) × (b ≤ 57)
unfolding is_digit
digit-within b t = (
  leb-true 48 b (and_left _ _ t),
  omega (arith, ltb-true b 58 (and_right (leb 48 b) _ t)),
)

pub digits_are : (most n : ℕ) → all is_digit (digits most n) ≡ true
unfolding all digits
digits_are zero n = refl
digits_are (suc most) n =
    by_cases (ltb n 10)
    (λ t. rw t (and_intro (digit-is n (ltb-true n 10 t)) refl))
    (λ f.
    rw f
    (all_append is_digit (digits most (n / 10)) _
    ∙ and_intro (digits_are most (n / 10)) (and_intro (digit-is (n % 10) (omega arith)) refl)))

pub decimal-digits : (n : ℕ) → all is_digit (decimal n) ≡ true
unfolding decimal
decimal-digits n = digits_are 5 n

pub digits-only : (n b : ℕ) → n < 100000 → Memᴰ b (decimal n) → (48 ≤ b) × (b ≤ 57)
digits-only n b h m = digit-within b (all-at is_digit (decimal-digits n) m)

-- How many

digits-some : (most n : ℕ) → 0 < length (digits (suc most) n)
unfolding digits
digits-some most n =
    by_cases (ltb n 10)
    (λ t. rw t (omega arith))
    (λ f. rw f (omega (arith, length-append (digits most (n / 10)) (digit (n % 10) ∷ []))))

pub some-digit : (n : ℕ) → 0 < length (decimal n)
unfolding decimal
some-digit n = digits-some 4 n

-- one digit more than it has room for changes nothing
pub digits-enough : (most n : ℕ) → n < 10 ^ suc most → digits (suc (suc most)) n ≡ digits (suc most) n
digits-enough zero n h = digits-one 1 n (omega arith) ∙ sym (digits-one 0 n (omega arith))
digits-enough (suc most) n h =
    by_cases (ltb n 10)
    (λ t. let l = ltb-true n 10 t in digits-one (suc (suc most)) n l ∙ sym (digits-one (suc most) n l))
    (λ f.
    digits_more (suc (suc most)) n f
    ∙ ap (λ front. front ++ (digit (n % 10) ∷ [])) (digits-enough most (n / 10) (omega (arith, pow-suc 10 (suc most))))
    ∙ sym (digits_more (suc most) n f))

-- The first

first-zero : (most n : ℕ) → n < 10 ^ most → get_or (digits most n) 0 0 ≡ 48 → n ≡ 0
unfolding digit
first-zero zero n h e = omega arith
first-zero (suc zero) n h e = omega (arith, rw (digits-one 0 n (omega arith)) at e)
first-zero (suc (suc most)) n h e =
    by_cases (ltb n 10)
    (λ t. omega (arith, rw (digits-one (suc most) n (ltb-true n 10 t)) at e))
    (λ f.
    let front = get_or-append (digits (suc most) (n / 10)) (digit (n % 10) ∷ []) 0 0 (digits-some most (n / 10)) in
    let none = first-zero (suc most) (n / 10) (omega (arith, pow-suc 10 (suc most)))
    (sym front ∙ (rw (digits_more (suc most) n f) at e)) in
    omega (arith, ltb-false n 10 f))

pub no-leading-zero : (n : ℕ) → n < 100000 → get_or (decimal n) 0 0 ≡ 48 → n ≡ 0
unfolding decimal
no-leading-zero n h e = first-zero 5 n h e
