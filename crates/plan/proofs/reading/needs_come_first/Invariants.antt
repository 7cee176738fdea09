use lib.ListN.{get_or}
use lib.Dec.{eqb}
use Rattle.common.proofs.Tested.{Passed}
use Rattle.sets.specs.Kept.Sets.{lowered}
use Rattle.plan.proofs.reading.needs_come_first.Given as goal

abbrev pub invariant-loop-k : goal.invariant-loop-k
invariant-loop-k l = Passed (λ j. eqb (lowered (get_or l.named j 0) j) 0) l.count l.k
