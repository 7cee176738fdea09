use Rattle.picture.proofs.Longest.{longest-right}
use Rattle.picture.proofs.promises.longest_is_right.Goals as goal

pub returns : goal.returns
returns c = longest-right
