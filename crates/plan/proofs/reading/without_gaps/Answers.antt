use Rattle.plan.proofs.NumbersUsed.{gapless-fails, gapless-set}
use Rattle.plan.proofs.reading.without_gaps.Goals as goal

pub returns-then-n-gt32 : goal.returns-then-n-gt32
returns-then-n-gt32 c = search gapless-fails

pub returns : goal.returns
returns c = search gapless-set
