use Prim.Native.Nat.{◌-◌}
use lib.ListN.{length}
use Rattle.decimal.proofs.Short.{ReadUpto}
use Rattle.decimal.proofs.read_on.Given as goal

abbrev pub invariant-loop-n : goal.invariant-loop-n
invariant-loop-n l = ReadUpto l.text l.at l.n l.i

abbrev pub decreases-loop-n : goal.decreases-loop-n
decreases-loop-n l = length l.text - l.i
