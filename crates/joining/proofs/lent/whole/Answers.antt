use native.Mathlib.Omega.{arith}
use Rattle.joining.proofs.LentLoops.{whole-next, whole-past, whole-end}
use Rattle.joining.proofs.lent.whole.Goals as goal
use Rattle.joining.proofs.lent.whole.Goals.{else-loop-test, then-loop-test+then-goals-at}

pub loop-preserved : goal.loop-preserved
loop-preserved c = search whole-next

pub returns : goal.returns
returns c = elim c.loop-test.branch [
  | else-loop-test w ↦ whole-end _ (omega (arith, w.loop-test.false)) c.loop.invariant
  | then-loop-test+then-goals-at w ↦ whole-past _ c.loop.invariant w.if-goals-at.true
]
