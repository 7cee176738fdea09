use Rattle.command.proofs.Before.{covered-still}
use Rattle.command.proofs.promises.covered_is_covered_still.Goals as goal

pub returns : goal.returns
returns c = covered-still
