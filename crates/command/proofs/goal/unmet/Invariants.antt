use Rattle.command.proofs.MaskLoop.{UnmetUpto}
use Rattle.command.proofs.goal.unmet.Given as goal

abbrev pub invariant-loop-i : goal.invariant-loop-i
invariant-loop-i l = UnmetUpto l.state l.masks l.numbers l.i l.r
