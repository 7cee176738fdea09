use Rattle.plan.proofs.Planned.{planned-usable}
use Rattle.plan.proofs.promises.own_usable_is_right.Goals as goal

pub returns : goal.returns
returns c = planned-usable
