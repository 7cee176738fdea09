use Rattle.plan.proofs.Planned.{planned}
use Rattle.plan.proofs.promises.plan_is_right.Goals as goal

pub returns : goal.returns
returns c = planned
