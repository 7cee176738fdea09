use Rattle.plan.proofs.CostLoops.{Prepares}
use Rattle.plan.proofs.bounding.prepared.Given as goal

abbrev pub invariant-loop-a : goal.invariant-loop-a
invariant-loop-a l = Prepares l.costs l.named l.r l.a-iterator.rest
