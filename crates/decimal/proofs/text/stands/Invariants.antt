use Rattle.decimal.proofs.Standing.{StandUpto}
use Rattle.decimal.proofs.text.stands.Given as goal

abbrev pub invariant-loop-i : goal.invariant-loop-i
invariant-loop-i l = StandUpto l.text l.at l.bytes l.i l.same
