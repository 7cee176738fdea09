use Rattle.command.proofs.GoalTest.{GoodBytes}
use Rattle.command.proofs.goal.first_bad.Given as goal

abbrev pub invariant-loop-i : goal.invariant-loop-i
invariant-loop-i l = GoodBytes l.goal l.modes l.i
