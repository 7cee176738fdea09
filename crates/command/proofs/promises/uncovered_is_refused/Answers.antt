use Rattle.command.proofs.Refusals.{uncovered}
use Rattle.command.proofs.promises.uncovered_is_refused.Goals as goal

pub returns : goal.returns
returns c = uncovered
