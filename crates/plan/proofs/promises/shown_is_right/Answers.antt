use Rattle.plan.proofs.Shown.{shown-right}
use Rattle.plan.proofs.promises.shown_is_right.Goals as goal

pub returns : goal.returns
returns c = shown-right
