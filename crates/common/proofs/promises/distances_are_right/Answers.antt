use Rattle.common.proofs.Guarantees.{distances-right}
use Rattle.common.proofs.promises.distances_are_right.Goals as goal

pub returns : goal.returns
returns c = distances-right
