use Rattle.plan.proofs.SetLoops.{Meets}
use Rattle.plan.proofs.grouping.mutual.Given as goal

abbrev pub invariant-loop-j : goal.invariant-loop-j
invariant-loop-j l = Meets l.reach l.i l.r l.j-iterator.rest
