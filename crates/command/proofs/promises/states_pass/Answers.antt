use Rattle.command.proofs.TurnedDown.{state-passes}
use Rattle.command.proofs.promises.states_pass.Goals as goal

pub returns : goal.returns
returns c = state-passes
