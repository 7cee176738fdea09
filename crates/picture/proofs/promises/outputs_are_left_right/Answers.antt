use Rattle.picture.proofs.Written.{outputs-left}
use Rattle.picture.proofs.promises.outputs_are_left_right.Goals as goal

pub returns : goal.returns
returns c = outputs-left
