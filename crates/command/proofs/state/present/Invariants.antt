use Rattle.command.proofs.PresentLoop.{PresentUpto}
use Rattle.command.proofs.state.present.Given as goal

abbrev pub invariant-loop-i : goal.invariant-loop-i
invariant-loop-i l = PresentUpto l.state l.numbers l.weights l.i l.r
