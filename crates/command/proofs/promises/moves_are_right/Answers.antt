use Rattle.command.proofs.Meanings.{moves-right}
use Rattle.command.proofs.promises.moves_are_right.Goals as goal

pub returns : goal.returns
returns c = moves-right
