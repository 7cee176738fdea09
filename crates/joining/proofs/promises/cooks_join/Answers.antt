use Rattle.joining.specs.Cooks.{cooks-join}
use Rattle.joining.proofs.promises.cooks_join.Goals as goal

pub returns : goal.returns
returns c = cooks-join
