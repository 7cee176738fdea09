use Rattle.plan.proofs.CostLoops.{Costed}
use Rattle.plan.proofs.bounding.bound.Given as goal

abbrev pub invariant-loop-k : goal.invariant-loop-k
invariant-loop-k l = Costed l.named l.longest l.count l.k l.costs l.total
