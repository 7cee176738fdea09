use Rattle.plan.proofs.Replies.{replied}
use Rattle.plan.proofs.promises.replies_are_right.Goals as goal

pub returns : goal.returns
returns c = replied
