use Rattle.command.proofs.TurnedDown.{first_found}
use Rattle.command.proofs.promises.first_wrong_is_found.Goals as goal

pub returns : goal.returns
returns c = first_found
