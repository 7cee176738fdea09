use Rattle.plan.proofs.WritingLoops.{start-written}
use Rattle.plan.proofs.writing.put_start.Goals as goal

pub returns : goal.returns
returns c = search start-written
