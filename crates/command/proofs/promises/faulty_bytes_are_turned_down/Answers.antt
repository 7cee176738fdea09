use Rattle.command.proofs.TurnedDown.{turned_down}
use Rattle.command.proofs.promises.faulty_bytes_are_turned_down.Goals as goal

pub returns : goal.returns
returns c = turned_down
