use Rattle.command.proofs.Meanings.{states-right}
use Rattle.command.proofs.promises.states_are_right.Goals as goal

pub returns : goal.returns
returns c = states-right
