use Rattle.plan.proofs.NumbersUsed.{used-none, used-next}
use Rattle.plan.proofs.reading.used.Goals as goal

pub loop-i-init : goal.loop-i-init
loop-i-init c = used-none _

pub loop-i-preserved : goal.loop-i-preserved
loop-i-preserved c = search used-next
