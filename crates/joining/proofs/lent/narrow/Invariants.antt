use Rattle.joining.proofs.NarrowLoop.{NarrowedUpto}
use Rattle.joining.proofs.lent.narrow.Given as goal

abbrev pub invariant-loop-i : goal.invariant-loop-i
invariant-loop-i l = NarrowedUpto l.initial.masks l.goal l.i l.masks
