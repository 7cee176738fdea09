use Rattle.joining.proofs.Written.{join-left}
use Rattle.joining.proofs.promises.outputs_are_left_right.Goals as goal

pub returns : goal.returns
returns c = join-left
