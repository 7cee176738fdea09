use Prim.Native.Nat.{◌-◌}
use lib.ListN.{length}
use Rattle.picture.proofs.LabelLoop.{LabelUpto}
use Rattle.picture.proofs.matching.read_label.Given as goal

abbrev pub invariant-loop-more : goal.invariant-loop-more
invariant-loop-more l = LabelUpto l.text l.at l.machines l.end l.more

abbrev pub decreases-loop-more : goal.decreases-loop-more
decreases-loop-more l = length l.text - l.end
