use native.Mathlib.Omega.{arith}
use Rattle.command.proofs.HeldLoop.{held-group}
use Rattle.command.proofs.MaskLoop.{unmet-none, unmet-next, unmet-end}
use Rattle.command.proofs.Placing.{placed-few, placed-inside}
use Rattle.command.proofs.goal.unmet.Goals as goal

pub loop-i-init : goal.loop-i-init
loop-i-init c = search unmet-none

pub overflow_cast-m : goal.overflow_cast-m
overflow_cast-m c = omega (arith, placed-few c.requires.0.2)

pub bounds-masks-i : goal.bounds-masks-i
bounds-masks-i c = omega (arith, placed-few c.requires.0.2, c.requires.1)

pub mode_at-requires : goal.mode_at-requires
mode_at-requires c = omega (arith, placed-inside c.requires.0.2 _ c.loop-i-test.true)

pub put_if-r-requires : goal.put_if-r-requires
put_if-r-requires c = search held-group

pub loop-i-preserved : goal.loop-i-preserved
loop-i-preserved c = search unmet-next

pub returns : goal.returns
returns c = search unmet-end
