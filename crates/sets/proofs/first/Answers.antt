use Prim.Native.Nat.{◌-◌}
use mathlib.Core.Path.{◌≡◌, ap}
use native.Mathlib.Omega.{arith}
use lib.Pow.{pow_pos}
use Rattle.sets.specs.Kept.Sets.{below, alone}
use Rattle.sets.proofs.first.Goals as goal

pub overflow_sub-result : goal.overflow_sub-result
unfolding alone
overflow_sub-result c = omega (arith, pow_pos c.args.n, c.one.ensures)

pub returns-then-n-lt64 : goal.returns-then-n-lt64
unfolding below alone
returns-then-n-lt64 c = ap (λ s. s - 1) c.one.ensures

pub returns : goal.returns
unfolding below
returns c = let e : c.args.n ≡ 64 = omega arith in rw e
