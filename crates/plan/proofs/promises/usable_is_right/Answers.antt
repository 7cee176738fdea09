use Rattle.plan.proofs.Planned.{usable-right}
use Rattle.plan.proofs.promises.usable_is_right.Goals as goal

pub returns : goal.returns
returns c = usable-right
