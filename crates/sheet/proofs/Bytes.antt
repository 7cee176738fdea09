-- Sets of modes in a valid model are bytes.
-- Assumes nothing.
use Prim.Native.Nat.{ℕ, ◌≤◌, ◌<◌}
use mathlib.Core.Path.{◌≡◌}
use mathlib.Core.Bool.{false}
use native.Mathlib.Omega.{arith}
use borrow.Author.Tests.{leb-true, leb-false}
use lib.Pow.{pow_mono}
use lib.Dec.{leb}
use lib.ListN.{get_or, get_or-eq_default}
use Rattle.common.specs.Bits.{beyond}
use Rattle.common.proofs.Bools.{by_cases}
use Rattle.common.proofs.Bits.{beyond-small}
use Rattle.sheet.specs.Model.{Guard, Move, Model, machine_count, mode_count}
use Rattle.sheet.specs.Valid.{ValidGuard, Valid}

-- a set of at most eight modes is a byte
pub set-is-byte : (n mask : ℕ) → n ≤ 8 → beyond n mask ≡ false → mask < 256
set-is-byte n mask h b = omega (arith, beyond-small n mask b, pow_mono h)

module _ (m : Model) (ok : Valid m) where
  pub live-is-byte : (i : ℕ) → get_or m.live i 0 < 256
  live-is-byte i =
      by_cases (leb (machine_count m) i)
      (λ t. omega (arith, get_or-eq_default m.live 0 {n = i} (omega (arith, leb-true, ok.same_length))))
      (λ f.
      let k = ok.machines-valid i (leb-false _ _ f) in
      set-is-byte (mode_count m i) _ k.few-modes k.within)

  pub mask-is-byte : {v : Move} {g : Guard} → ValidGuard m v g → g.mask < 256
  mask-is-byte {g = g} h =
      let i = ok.machines-valid g.machine h.present in
      set-is-byte (mode_count m g.machine) _ i.few-modes h.within
