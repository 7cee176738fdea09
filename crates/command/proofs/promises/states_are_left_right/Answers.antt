use Rattle.command.proofs.Applying.{state-left}
use Rattle.command.proofs.promises.states_are_left_right.Goals as goal

pub returns : goal.returns
returns c = state-left
