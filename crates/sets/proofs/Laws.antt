-- The bits of each operation on sets. The equations hold of any numbers, at any bit, so `rw` and `simp` take them bare.
-- Assumes nothing.
use Prim.Native.Nat.{ℕ, zero, suc, ◌+◌, ◌-◌, ◌*◌, ◌/◌, ◌%◌, ◌^◌, ◌≤◌, ◌<◌, min, max}
use mathlib.Core.Path.{◌≡◌, refl, sym, ap, ap₂, ◌∙◌}
use mathlib.Core.Logic.{◌⊎◌, inl, inr}
use mathlib.Core.Bool.{Bool, true, false, not, ◌&&◌, ◌||◌}
use native.Mathlib.Nat.{min-le_left, pow-suc, mul-one, mod-one, mul_assoc, add-zero, sub-zero, suc-sub-suc, one-mul}
use native.Mathlib.Omega.{arith}
use borrow.Author.Tests.{lt-ltb, eqb-true, not-true}
use lib.Dec.{eqb, ltb, leb, eqb-zero-suc, eqb-suc-zero, eqb-suc-suc, leb-zero, leb-suc-zero, leb-suc-suc}
use lib.Arith.{lt-one, mod-mul}
use lib.Pow.{pow_pos, pow-lt, shr-shr, shl_exact}
use lib.Bits.{bit_and, bit_or, and_step, or_step, and_le_l, or_lt, or_disjoint}
use Rattle.common.specs.Bits.{bit}
use Rattle.common.proofs.Bits.{bit_past}
use Rattle.common.proofs.Bools.{by_cases, and_intro, and_left, and_right, not_of_false}
use Rattle.sets.specs.Kept.Sets.{alone, below, union, both, less, raised, lowered}
use Rattle.sets.proofs.Digits.{num, digit_low, digit-high, bit-suc, bitwise, same_bits, mod-num, half-below}

pub bit-none : (i : ℕ) → bit 0 i ≡ false
bit-none i = bit_past 0 i (pow_pos i)

or-digit : (p q : Bool) → max (num p) (num q) ≡ num (p || q)
or-digit true true = refl
or-digit true false = refl
or-digit false true = refl
or-digit false false = refl

and-digit : (p q : Bool) → min (num p) (num q) ≡ num (p && q)
and-digit true true = refl
and-digit true false = refl
and-digit false true = refl
and-digit false false = refl

less-digit : (p q : Bool) → num p - min (num p) (num q) ≡ num (p && not q)
less-digit true true = refl
less-digit true false = refl
less-digit false true = refl
less-digit false false = refl

pub bit-union : (a b i : ℕ) → bit (union a b) i ≡ (bit a i || bit b i)
unfolding union
bit-union = bitwise bit_or max (λ p q. p || q) or_step or-digit

pub bit-both : (a b i : ℕ) → bit (both a b) i ≡ (bit a i && bit b i)
unfolding both
bit-both = bitwise bit_and min (λ p q. p && q) and_step and-digit

pub less-step : (a b : ℕ) → less a b ≡ less (a / 2) (b / 2) * 2 + (a % 2 - min (a % 2) (b % 2))
unfolding less both
less-step a b = omega (arith, and_step a b, and_le_l (a / 2) (b / 2), min-le_left (a % 2) (b % 2))

pub bit-less : (a b i : ℕ) → bit (less a b) i ≡ (bit a i && not (bit b i))
bit-less = bitwise less (λ x y. x - min x y) (λ p q. p && not q) less-step less-digit

-- what `a & !b` computes
not_digit : (p q : Bool) → min (num p) (1 - num q) ≡ num p - min (num p) (num q)
not_digit true true = refl
not_digit true false = refl
not_digit false true = refl
not_digit false false = refl

pub and-not : (k a b : ℕ) → a < 2 ^ k → b < 2 ^ k → bit_and a (2 ^ k - 1 - b) ≡ less a b
unfolding less both
and-not zero a b ha hb = rw (lt-one ha)
and-not (suc k) a b ha hb =
    let half : (2 ^ suc k - 1 - b) / 2 ≡ 2 ^ k - 1 - b / 2 = omega (arith, pow-suc 2 k) in
    let low : (2 ^ suc k - 1 - b) % 2 ≡ 1 - b % 2 = omega (arith, pow-suc 2 k) in
    let digit : min (a % 2) (1 - b % 2) ≡ a % 2 - min (a % 2) (b % 2) =
    rw (mod-num a, mod-num b) (not_digit (bit a 0) (bit b 0)) in
    and_step a (2 ^ suc k - 1 - b)
    ∙ ap₂ (λ x y. bit_and (a / 2) x * 2 + min (a % 2) y) half low
    ∙ ap₂ (λ x y. x * 2 + y) (and-not k (a / 2) (b / 2) (half-below k ha) (half-below k hb)) digit
    ∙ sym (less-step a b)

double : (n : ℕ) → 2 ^ suc n ≡ 2 ^ n * 2 + num false
double n = omega (arith, pow-suc 2 n)

double-ones : (n : ℕ) → 2 ^ suc n - 1 ≡ (2 ^ n - 1) * 2 + num true
double-ones n = omega (arith, pow-suc 2 n, pow_pos n)

pub bit-alone : (i j : ℕ) → bit (alone i) j ≡ eqb i j
unfolding alone bit
bit-alone zero zero = refl
bit-alone zero (suc j) = bit-suc 1 j ∙ bit-none j ∙ sym (eqb-zero-suc j)
bit-alone (suc i) zero = digit_low _ false (double i) ∙ sym (eqb-suc-zero i)
bit-alone (suc i) (suc j) =
    digit-high _ false (double i) j ∙ bit-alone i j ∙ sym (eqb-suc-suc i j)

pub bit-first : (n i : ℕ) → bit (below n) i ≡ ltb i n
unfolding below
bit-first zero i = bit-none i ∙ sym (leb-suc-zero i)
bit-first (suc n) zero = digit_low _ true (double-ones n) ∙ sym (lt-ltb 0 (suc n) (omega arith))
bit-first (suc n) (suc i) =
    digit-high _ true (double-ones n) i ∙ bit-first n i ∙ sym (leb-suc-suc (suc i) n)

pub bit-lowered : (s k i : ℕ) → bit (lowered s k) i ≡ bit s (k + i)
unfolding lowered bit
bit-lowered s k i = ap (λ n. eqb (n % 2) 1) (shr-shr s k i)

mod-half : (n s : ℕ) → s % 2 ^ suc n ≡ s / 2 % 2 ^ n * 2 + num (bit s 0)
mod-half n s =
    ap (◌%◌ s) (pow-suc 2 n) ∙ mod-mul s (pow_pos n) (omega arith) ∙ ap (◌+◌ (s / 2 % 2 ^ n * 2)) (mod-num s)

bit-mod : (n s i : ℕ) → bit (s % 2 ^ n) i ≡ (ltb i n && bit s i)
bit-mod zero s i = ap (λ m. bit m i) (mod-one s) ∙ bit-none i ∙ ap (λ t. t && bit s i) (sym (leb-suc-zero i))
bit-mod (suc n) s zero = digit_low _ _ (mod-half n s) ∙ ap (λ t. t && bit s 0) (sym (lt-ltb 0 (suc n) (omega arith)))
bit-mod (suc n) s (suc i) =
    digit-high _ (bit s 0) (mod-half n s) i ∙ bit-mod n (s / 2) i
    ∙ ap₂ ◌&&◌ (sym (leb-suc-suc (suc i) n)) (sym (bit-suc s i))

times-half : (k s : ℕ) → s * 2 ^ suc k ≡ s * 2 ^ k * 2 + num false
times-half k s = ap (◌*◌ s) (pow-suc 2 k) ∙ sym (mul_assoc s (2 ^ k) 2) ∙ sym (add-zero _)

bit-times : (k s i : ℕ) → bit (s * 2 ^ k) i ≡ (leb k i && bit s (i - k))
bit-times zero s i = rw (mul-one, leb-zero, sub-zero)
bit-times (suc k) s zero = digit_low _ false (times-half k s) ∙ rw leb-suc-zero
bit-times (suc k) s (suc i) = digit-high _ false (times-half k s) i ∙ bit-times k s i ∙ rw (leb-suc-suc, suc-sub-suc)

pub bit-raised : (s k i : ℕ) → bit (raised s k) i ≡ (ltb i 64 && (leb k i && bit s (i - k)))
unfolding raised
bit-raised s k i = bit-mod 64 (s * 2 ^ k) i ∙ ap (◌&&◌ (ltb i 64)) (bit-times k s i)

-- the members of what is left

pub less-from : (a b i : ℕ) → bit (less a b) i ≡ true → bit a i ≡ true
less-from a b i t = and_left _ _ (sym (bit-less a b i) ∙ t)

pub less-not : (a b i : ℕ) → bit (less a b) i ≡ true → bit b i ≡ false
less-not a b i t = not-true _ (and_right (bit a i) _ (sym (bit-less a b i) ∙ t))

pub less-intro : (a b i : ℕ) → bit a i ≡ true → bit b i ≡ false → bit (less a b) i ≡ true
less-intro a b i t f = bit-less a b i ∙ and_intro t (not_of_false f)

-- a member is the one that is taken out, or it is left
pub alone-or-less : (s i u : ℕ) → bit s u ≡ true → (i ≡ u) ⊎ (bit (less s (alone i)) u ≡ true)
alone-or-less s i u t =
    by_cases (eqb i u) (λ e. inl (eqb-true i u e)) (λ f. inr (less-intro s (alone i) u t (bit-alone i u ∙ f)))

-- what the bits tell of the whole set

pub union-below : (k a b : ℕ) → a < 2 ^ k → b < 2 ^ k → union a b < 2 ^ k
unfolding union
union-below = or_lt

pub less-le : (a b : ℕ) → less a b ≤ a
unfolding less
less-le a b = omega arith

pub empty : (k : ℕ) {s : ℕ} → s < 2 ^ k → ((i : ℕ) → i < k → bit s i ≡ false) → s ≡ 0
empty k l h = same_bits k l (pow_pos k) (λ i j. h i j ∙ sym (bit-none i))

-- a number without bits is 0, however large
power-above : (n : ℕ) → n < 2 ^ n
power-above zero = pow_pos 0
power-above (suc n) = omega (arith, power-above n, pow-suc 2 n)

pub no_bits : {s : ℕ} → ((i : ℕ) → bit s i ≡ false) → s ≡ 0
no_bits {s} h = empty s (power-above s) (λ i l. h i)

-- what is new to a set adds up with it
pub union-less : (k : ℕ) {b : ℕ} (a : ℕ) → b < 2 ^ k → union b (less a b) ≡ b + less a b
unfolding union both
union-less k {b} a h =
    or_disjoint b (less a b)
    (empty k (omega (arith, and_le_l b (less a b)))
    (λ i l. bit-both b (less a b) i ∙ rw bit-less (apart (bit b i) (bit a i))))
  where
    apart : (p q : Bool) → p && (q && not p) ≡ false
    apart true true = refl
    apart true false = refl
    apart false q = refl

-- what `1 << i` computes
pub one_shifted : {i : ℕ} → i < 64 → 1 * 2 ^ i % 2 ^ 64 ≡ alone i
unfolding alone
one_shifted {i} h = shl_exact 1 i 64 (omega arith) (omega arith) ∙ one-mul (2 ^ i)

pub alone-below : (k : ℕ) {i : ℕ} → i < k → alone i < 2 ^ k
unfolding alone
alone-below k h = pow-lt h
