use Rattle.plan.proofs.WritingLoops.{bound-written}
use Rattle.plan.proofs.writing.put_bound.Goals as goal

pub returns : goal.returns
returns c = search bound-written
