use Rattle.plan.proofs.TableStarts.{StartsUpto}
use Rattle.plan.proofs.reading.starts.Given as goal

abbrev pub invariant-loop-k : goal.invariant-loop-k
invariant-loop-k l = StartsUpto l.sizes l.n l.at l.k l.r
