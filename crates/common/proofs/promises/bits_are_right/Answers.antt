use Rattle.common.proofs.Guarantees.{bits-right}
use Rattle.common.proofs.promises.bits_are_right.Goals as goal

pub returns : goal.returns
returns c = bits-right
