use Rattle.plan.proofs.Groups.{groups-right}
use Rattle.plan.proofs.promises.groups_are_right.Goals as goal

pub returns : goal.returns
returns c = groups-right
