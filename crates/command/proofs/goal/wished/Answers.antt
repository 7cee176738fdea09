use Rattle.command.proofs.WishedGoal.{wished-none, wished-next, wished-end}
use Rattle.command.proofs.goal.wished.Goals as goal

pub loop-i-init : goal.loop-i-init
loop-i-init c = wished-none _ _ _

pub loop-i-preserved : goal.loop-i-preserved
loop-i-preserved c = search wished-next

pub returns : goal.returns
returns c = search wished-end
