use Rattle.picture.proofs.LabelLoop.{label-none, label-stops}
use Rattle.picture.proofs.LabelLoop.{label-next, label-other, label-ends}
use Rattle.picture.proofs.matching.read_label.Goals as goal

pub loop-more-init : goal.loop-more-init
loop-more-init c = search label-none

pub returns-in_err-i : goal.returns-in_err-i
returns-in_err-i c = rw c.from_residual.ensures (label-stops _ _ c.loop-more.invariant c.loop-more-test.true c.in_err-i.ensures)

pub loop-more-preserved : goal.loop-more-preserved
loop-more-preserved c = search (label-next, c.in_ok-i.ensures)

pub returns-then-not-stands : goal.returns-then-not-stands
returns-then-not-stands c = search label-other

pub returns : goal.returns
returns c = search label-ends
