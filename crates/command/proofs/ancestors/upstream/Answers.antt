use Rattle.command.proofs.Marks.{one_end}
use Rattle.command.proofs.ancestors.upstream.Goals as goal

pub returns : goal.returns
returns c = search one_end
