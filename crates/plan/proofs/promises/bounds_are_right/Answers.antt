use Rattle.plan.proofs.Bounds.{bounds-right}
use Rattle.plan.proofs.promises.bounds_are_right.Goals as goal

pub returns : goal.returns
returns c = bounds-right
