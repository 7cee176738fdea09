use Rattle.command.proofs.Applying.{applies-right}
use Rattle.command.proofs.promises.applying_is_right.Goals as goal

pub returns : goal.returns
returns c = applies-right
