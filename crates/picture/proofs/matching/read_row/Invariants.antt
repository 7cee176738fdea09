use Prim.Native.Nat.{◌-◌}
use lib.ListN.{length}
use Rattle.picture.proofs.EdgeLoop.{RowUpto}
use Rattle.picture.proofs.matching.read_row.Given as goal

abbrev pub invariant-loop-at : goal.invariant-loop-at
invariant-loop-at l = RowUpto l.text l.at l.a l.count l.targets l.end

abbrev pub decreases-loop-at : goal.decreases-loop-at
decreases-loop-at l = length l.text - l.end
