use Rattle.joining.proofs.Told.{joins-right}
use Rattle.joining.proofs.promises.joins_are_right.Goals as goal

pub returns : goal.returns
returns c = joins-right
