use native.Mathlib.Omega.{arith}
use Rattle.command.proofs.HeldLoop.{held-group}
use Rattle.command.proofs.MaskLoop.{failed-none, failed-next, failed-end}
use Rattle.command.proofs.Placing.{placed-few, placed-inside, placed-live}
use Rattle.command.proofs.liveness.failed.Goals as goal

pub loop-i-init : goal.loop-i-init
loop-i-init c = search failed-none

pub overflow_cast-m : goal.overflow_cast-m
overflow_cast-m c = omega (arith, placed-few c.requires.2)

pub bounds-live-i : goal.bounds-live-i
bounds-live-i c = omega (arith, placed-few c.requires.2, placed-live c.requires.2 c.requires.3)

pub mode_at-requires : goal.mode_at-requires
mode_at-requires c = omega (arith, placed-inside c.requires.2 _ c.loop-i-test.true)

pub put_if-r-requires : goal.put_if-r-requires
put_if-r-requires c = search held-group

pub tag_at-requires : goal.tag_at-requires
tag_at-requires c = placed-inside c.requires.2 _ c.loop-i-test.true

pub put_if-r-requires-in-loop-i : goal.put_if-r-requires-in-loop-i
put_if-r-requires-in-loop-i c = search held-group

pub loop-i-preserved : goal.loop-i-preserved
loop-i-preserved c = failed-next _ _ _ _ c.loop-i.invariant c.loop-i-test.true c.group_of.ensures c.from-k.ensures
    c.mode_at.ensures c.has_mode.ensures c.put_if-r.ensures c.tag_at.ensures c.put_if-r-in-loop-i.ensures

pub returns : goal.returns
returns c = search failed-end
