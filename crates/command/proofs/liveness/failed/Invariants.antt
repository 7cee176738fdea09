use Rattle.command.proofs.MaskLoop.{FailedUpto}
use Rattle.command.proofs.liveness.failed.Given as goal

abbrev pub invariant-loop-i : goal.invariant-loop-i
invariant-loop-i l = FailedUpto l.state l.live l.numbers l.i l.r
