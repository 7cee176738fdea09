use Rattle.joining.proofs.LentLoops.{longest-next, longest-end}
use Rattle.joining.proofs.lent.longest.Goals as goal

pub loop-goal-preserved : goal.loop-goal-preserved
loop-goal-preserved c = search (longest-next, c.in-Some.ensures)

pub returns : goal.returns
returns c = search (longest-end, c.in-None.ensures)
