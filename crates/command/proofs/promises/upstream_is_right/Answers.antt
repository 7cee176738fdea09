use Rattle.command.proofs.Ancestry.{upstream-right}
use Rattle.command.proofs.promises.upstream_is_right.Goals as goal

pub returns : goal.returns
returns c = upstream-right
