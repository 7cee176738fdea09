use Rattle.joining.proofs.SharedLoop.{shared-short, shared-next, shared-end}
use Rattle.joining.proofs.lent.shared.Goals as goal

pub narrow-requires : goal.narrow-requires
narrow-requires c = search (shared-short, c.in-Some.ensures)

pub loop-goal-preserved : goal.loop-goal-preserved
loop-goal-preserved c = search (shared-next, c.in-Some.ensures)

pub returns : goal.returns
returns c = search (shared-end, c.in-None.ensures)
