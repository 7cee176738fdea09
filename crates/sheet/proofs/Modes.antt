-- A byte has no mode past 7; the first modes of a byte.
-- Assumes nothing.
use Prim.Native.Nat.{ℕ, ◌*◌, ◌/◌, ◌%◌, ◌^◌, ◌≤◌, ◌<◌}
use mathlib.Core.Path.{◌≡◌, ◌∙◌}
use mathlib.Core.Bool.{false}
use native.Mathlib.Nat.{div-eq_of_lt, mod-eq_of_lt, le_trans}
use native.Mathlib.Omega.{arith}
use borrow.Author.Tests.{ne_eqb}
use lib.Pow.{pow_mono}
use Rattle.common.specs.Bits.{bit, beyond}
use Rattle.common.proofs.Bits.{small-beyond}

module _ (mask n : ℕ) (byte : mask < 256) (past : 8 ≤ n) where
  small : mask < 2 ^ n
  small = le_trans byte (pow_mono past)

  pub bit_past : bit mask n ≡ false
  unfolding bit
  bit_past = ne_eqb (mask / 2 ^ n % 2) 1 (λ e. omega (arith, div-eq_of_lt small))

  pub beyond-past : beyond n mask ≡ false
  beyond-past = small-beyond n mask small

-- a bit shifted to mode n
pub shift_one : {n k : ℕ} → k ≡ n → n ≤ 8 → (1 * 2 ^ k) % 2 ^ 64 ≡ 2 ^ n
shift_one {n} e h = rw e (mod-eq_of_lt (omega (arith, pow_mono h)) ∙ omega arith)
