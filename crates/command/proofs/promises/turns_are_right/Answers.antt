use Rattle.command.proofs.Turns.{turns-right}
use Rattle.command.proofs.promises.turns_are_right.Goals as goal

pub returns : goal.returns
returns c = turns-right
