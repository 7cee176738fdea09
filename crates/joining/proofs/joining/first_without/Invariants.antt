use Rattle.joining.proofs.WithoutLoop.{LeftBefore}
use Rattle.joining.proofs.joining.first_without.Given as goal

abbrev pub invariant-loop-i : goal.invariant-loop-i
invariant-loop-i l = LeftBefore l.masks l.n l.i
