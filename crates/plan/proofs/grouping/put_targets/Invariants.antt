use Rattle.plan.proofs.TargetLoops.{TargetsUpto}
use Rattle.plan.proofs.grouping.put_targets.Given as goal

abbrev pub invariant-loop-i : goal.invariant-loop-i
invariant-loop-i l = TargetsUpto l.next l.numbers l.n l.i l.targets
