use Rattle.command.proofs.WishedGoal.{WishedUpto}
use Rattle.command.proofs.goal.wished.Given as goal

abbrev pub invariant-loop-i : goal.invariant-loop-i
invariant-loop-i l = WishedUpto l.goal l.modes l.n l.i l.r
