use Rattle.decimal.proofs.Exact.{decimals-right}
use Rattle.decimal.proofs.promises.decimals_are_right.Goals as goal

pub returns : goal.returns
returns c = decimals-right
