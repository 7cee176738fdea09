use Rattle.command.proofs.Walks.{walks-right}
use Rattle.command.proofs.promises.walks_are_right.Goals as goal

pub returns : goal.returns
returns c = walks-right
