use lib.ListN.{length}
use Rattle.picture.proofs.EdgeTable.{EdgesUpto}
use Rattle.picture.proofs.matching.read_edges.Given as goal

abbrev pub invariant-loop-a : goal.invariant-loop-a
invariant-loop-a l = EdgesUpto l.text l.at l.count (length l.initial.targets) l.targets l.a l.end
