use Rattle.clean.proofs.Cleaned.{cleans-right}
use Rattle.clean.proofs.promises.clean_is_right.Goals as goal

pub returns : goal.returns
returns c = cleans-right
