use Rattle.plan.proofs.WritingLoops.{end-written}
use Rattle.plan.proofs.writing.put_end.Goals as goal

pub returns : goal.returns
returns c = search end-written
