use Rattle.plan.proofs.NumbersUsed.{UsedUpto}
use Rattle.plan.proofs.reading.used.Given as goal

abbrev pub invariant-loop-i : goal.invariant-loop-i
invariant-loop-i l = UsedUpto l.numbers l.r l.i
