use Rattle.command.proofs.Meanings.{goals-right}
use Rattle.command.proofs.promises.goals_are_right.Goals as goal

pub returns : goal.returns
returns c = goals-right
