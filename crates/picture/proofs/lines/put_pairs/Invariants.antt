use Rattle.picture.proofs.SetRows.{PairsBegun}
use Rattle.picture.proofs.lines.put_pairs.Given as goal

abbrev pub invariant-loop-k : goal.invariant-loop-k
invariant-loop-k l = PairsBegun l.initial.out l.at l.targets l.a l.k-iterator.rest l.end l.out
