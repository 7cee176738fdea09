use Rattle.plan.proofs.SetLoops.{outside-less}
use Rattle.plan.proofs.grouping.outside.Goals as goal

pub returns : goal.returns
returns c = search outside-less
