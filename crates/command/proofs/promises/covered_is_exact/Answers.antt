use Rattle.command.proofs.Covers.{exactly-covered}
use Rattle.command.proofs.promises.covered_is_exact.Goals as goal

pub returns : goal.returns
returns c = exactly-covered
