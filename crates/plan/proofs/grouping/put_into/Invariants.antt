use Rattle.plan.proofs.TargetLoops.{PutUpto}
use Rattle.plan.proofs.grouping.put_into.Given as goal

abbrev pub invariant-loop-j : goal.invariant-loop-j
invariant-loop-j l = PutUpto l.initial.into l.numbers l.machines l.group.0 l.j-iterator.rest l.into
