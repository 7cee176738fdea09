use Rattle.plan.proofs.GroupLoops.{Summed}
use Rattle.plan.proofs.measure.entries.Given as goal

abbrev pub invariant-loop-size : goal.invariant-loop-size
invariant-loop-size l = Summed l.sizes l.size-index l.r
