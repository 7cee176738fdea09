use Rattle.command.proofs.Marks.{some_end}
use Rattle.command.proofs.ancestors.upstream_of.Goals as goal

pub returns : goal.returns
returns c = search some_end
