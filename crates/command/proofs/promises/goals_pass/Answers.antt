use Rattle.command.proofs.TurnedDown.{goal-passes}
use Rattle.command.proofs.promises.goals_pass.Goals as goal

pub returns : goal.returns
returns c = goal-passes
