-- The bits of a sum of distinct powers of two, and the size of a number without high bits.
-- Assumes nothing.
use Prim.Native.Nat.{ℕ, zero, suc, ◌+◌, ◌-◌, ◌*◌, ◌/◌, ◌%◌, ◌^◌, ◌≤◌, ◌<◌}
use mathlib.Core.Path.{◌≡◌, refl, sym, ap, ◌∙◌}
use mathlib.Core.Logic.{⊎_elim}
use mathlib.Core.List.{map, map-append}
use mathlib.Core.Bool.{Bool, true, false, cond}
use native.Mathlib.Nat.{pow-suc}
use native.Mathlib.Omega.{arith}
use borrow.Author.Tests.{leb-true, leb-false}
use lib.Dec.{eqb, leb}
use lib.Pow.{pow_pos, pow_mono, high, low, field, mod-mod-pow}
use Rattle.common.specs.Lists.{up_to, sum}
use Rattle.common.specs.Bits.{bit}
use Rattle.common.proofs.Bits.{bit-top}
use Rattle.common.proofs.Bools.{by_cases}
use Rattle.common.proofs.Least.{last-or-below}
use Rattle.common.proofs.Sums.{sum-append}
use Rattle.sets.proofs.Digits.{num}

-- the n low digits keep the bits below n
bit-remainder : (s n i : ℕ) → i < n → bit (s % 2 ^ n) i ≡ bit s i
unfolding bit
bit-remainder s n i h =
    let e : n ≡ n - suc i + 1 + i = omega arith in
    ap (λ d. eqb (d % 2) 1) (ap (λ k. s % 2 ^ k / 2 ^ i) e ∙ field s (n - suc i + 1) i)
    ∙ ap (λ d. eqb d 1) (mod-mod-pow (s / 2 ^ i) (n - suc i) 1)

-- a number of k digits without bits from n on is below 2 ^ n
pub bits-within : (n k s : ℕ) → s < 2 ^ k → ((i : ℕ) → n ≤ i → bit s i ≡ false) → s < 2 ^ n
bits-within n zero s h f = omega (arith, pow_pos n)
bits-within n (suc k) s h f =
    by_cases (leb n k)
    (λ t. bits-within n k s (bit-top k s h (f k (leb-true n k t))) f)
    (λ u. omega (arith, pow_mono {i = suc k} {j = n} (leb-false n k u)))

module _ (p : ℕ → Bool) where
  -- 2 ^ i for each i below n that passes p
  unfoldable pub powers : ℕ → ℕ
  powers n = sum (map (λ i. cond (p i) (2 ^ i) 0) (up_to n))

  powers-next : (n : ℕ) → powers (suc n) ≡ num (p n) * 2 ^ n + powers n
  unfolding powers sum up_to
  powers-next n = rw (map-append, sum-append) (omega (arith, worth (p n)))
    where
      worth : (b : Bool) → cond b (2 ^ n) 0 ≡ num b * 2 ^ n
      worth true = omega arith
      worth false = omega arith

  pub powers-below : (n : ℕ) → powers n < 2 ^ n
  unfolding powers sum up_to
  powers-below zero = omega arith
  powers-below (suc n) =
      by_cases (p n)
      (λ t. rw (powers-next n, t) (omega (arith, powers-below n, pow-suc 2 n)))
      (λ f. rw (powers-next n, f) (omega (arith, powers-below n, pow-suc 2 n)))

  top : (n : ℕ) → bit (powers (suc n)) n ≡ p n
  unfolding bit
  top n =
      ap (λ d. eqb (d % 2) 1) (ap (λ s. s / 2 ^ n) (powers-next n) ∙ high (num (p n)) n (powers-below n))
      ∙ digit (p n)
    where
      digit : (b : Bool) → eqb (num b % 2) 1 ≡ b
      digit true = refl
      digit false = refl

  pub bit-powers : (n i : ℕ) → i < n → bit (powers n) i ≡ p i
  bit-powers zero i h = absurd (let f : ⊥ = omega arith in f)
  bit-powers (suc n) i h =
      ⊎_elim
      (λ e. rw e (top n))
      (λ l.
      sym (bit-remainder (powers (suc n)) n i l)
      ∙ ap (λ s. bit s i) (ap (λ s. s % 2 ^ n) (powers-next n) ∙ low (num (p n)) n (powers-below n))
      ∙ bit-powers n i l)
      (last-or-below h)
