use Rattle.command.proofs.StateTest.{GoodPairs}
use Rattle.command.proofs.state.first_bad.Given as goal

abbrev pub invariant-loop-i : goal.invariant-loop-i
invariant-loop-i l = GoodPairs l.state l.modes l.i
