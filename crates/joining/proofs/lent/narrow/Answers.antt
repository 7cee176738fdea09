use Rattle.sets.specs.Kept.Sets.{both}
use Rattle.joining.proofs.NarrowLoop.{narrowed-upto-none, narrowed-upto-next}
use Rattle.joining.proofs.lent.narrow.Goals as goal

pub loop-i-init : goal.loop-i-init
loop-i-init c = search narrowed-upto-none

pub loop-i-preserved : goal.loop-i-preserved
unfolding both
loop-i-preserved c = search narrowed-upto-next
