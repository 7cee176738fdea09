use Rattle.picture.proofs.SetRows.{EdgesBegun}
use Rattle.picture.proofs.lines.put_edges.Given as goal

abbrev pub invariant-loop-k : goal.invariant-loop-k
invariant-loop-k l = EdgesBegun l.initial.out l.at l.targets l.a l.k-iterator.rest l.end l.out
