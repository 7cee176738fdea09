use Rattle.plan.proofs.PlannedStill.{planned-still}
use Rattle.plan.proofs.promises.planned_is_planned_still.Goals as goal

pub returns : goal.returns
returns c = planned-still
