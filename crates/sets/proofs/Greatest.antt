-- The greatest member of a set, by the zeros above it. Assumes nothing.
use Prim.Native.Nat.{ℕ, suc, ◌+◌, ◌-◌, ◌^◌, ◌≤◌, ◌<◌}
use mathlib.Core.Path.{◌≡◌, sym, subst}
use mathlib.Core.Bool.{true, false}
use native.Mathlib.Nat.{lt_of_lt_of_le, not-le_of_lt}
use native.Mathlib.Omega.{arith}
use lib.Count.{count_leading_zeros, leading_top}
use lib.Pow.{pow_mono}
use Rattle.common.specs.Bits.{bit}
use Rattle.common.proofs.Bits.{bit_past, bit-top}
use Rattle.common.proofs.Bools.{true-of-not-false}

module _ (s : ℕ) (some : 0 < s) (h : s < 2 ^ 64) where
  top : (j : ℕ) × (count_leading_zeros 64 s + suc j ≡ 64) × (2 ^ j ≤ s) × (s < 2 ^ suc j)
  top = leading_top 64 s some h

  place : 63 - count_leading_zeros 64 s ≡ top.0
  place = omega (arith, top.1)

  pub zeros-few : count_leading_zeros 64 s ≤ 63
  zeros-few = omega (arith, top.1)

  pub greatest-below : 63 - count_leading_zeros 64 s < 64
  greatest-below = omega (arith, top.1)

  pub greatest-member : bit s (63 - count_leading_zeros 64 s) ≡ true
  greatest-member =
      subst (λ (j : ℕ). bit s j ≡ true) (sym place)
      (true-of-not-false (λ f. not-le_of_lt (bit-top top.0 s top.3 f) top.2))

  pub greatest-above : (j : ℕ) → 63 - count_leading_zeros 64 s < j → bit s j ≡ false
  greatest-above j l = bit_past s j (lt_of_lt_of_le top.3 (pow_mono (omega (arith, place))))
