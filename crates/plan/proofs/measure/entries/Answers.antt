use Prim.Native.Nat.{◌<◌}
use native.Mathlib.Omega.{arith}
use Rattle.plan.proofs.GroupLoops.{summed-none, summed-next}
use Rattle.plan.proofs.measure.entries.Goals as goal

pub loop-size-init : goal.loop-size-init
loop-size-init c = summed-none _

pub loop-size-preserved : goal.loop-size-preserved
loop-size-preserved c = let small : c.from-n.result < 256 = omega arith in search summed-next
