use Rattle.plan.proofs.Shape.{shapes-right}
use Rattle.plan.proofs.promises.shapes_are_right.Goals as goal

pub returns : goal.returns
returns c = shapes-right
