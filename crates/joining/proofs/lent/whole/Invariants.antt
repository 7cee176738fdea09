use Prim.Native.Nat.{◌-◌}
use Rattle.joining.proofs.LentLoops.{WholeFrom}
use Rattle.joining.proofs.lent.whole.Given as goal

abbrev pub invariant-loop : goal.invariant-loop
invariant-loop l = WholeFrom l.goals (8 - l.counter) l.at
