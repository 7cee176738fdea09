use Rattle.plan.specs.Groups.{groups_of}
use Rattle.plan.proofs.Planning.{length-groups_of}
use Rattle.plan.proofs.ModesRight.{modes-right}
use Rattle.plan.proofs.promises.modes_are_right.Goals as goal

pub returns : goal.returns
returns c = λ m valid. modes-right m valid (groups_of m) (length-groups_of m)
