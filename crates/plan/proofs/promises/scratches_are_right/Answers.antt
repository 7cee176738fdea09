use Rattle.plan.proofs.Replies.{scratch-right}
use Rattle.plan.proofs.promises.scratches_are_right.Goals as goal

pub returns : goal.returns
returns c = scratch-right
