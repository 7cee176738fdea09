use Rattle.plan.proofs.SetLoops.{Unready}
use Rattle.plan.proofs.grouping.next_group.Given as goal

abbrev pub invariant-loop-i : goal.invariant-loop-i
invariant-loop-i l = Unready l.outside l.numbered l.n l.i-iterator.rest
