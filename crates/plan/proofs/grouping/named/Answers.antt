use Rattle.plan.specs.Needs.{names}
use Rattle.sheet.proofs.GuardLoop.{guards-end}
use Rattle.plan.proofs.PutLoop.{put-none, put_next}
use Rattle.plan.proofs.grouping.named.Goals as goal

pub loop-guard-init : goal.loop-guard-init
loop-guard-init c = search put-none

pub loop-guard-preserved : goal.loop-guard-preserved
loop-guard-preserved c = search (put_next, c.in-Some.ensures)

pub returns : goal.returns
unfolding names
returns c = record { bits = (guards-end c.loop-guard.invariant c.in-None.ensures.steps).bits }
