use lib.ListN.{length}
use Rattle.clean.specs.Kept.{machine_by}
use Rattle.sheet.proofs.Pieces.{PutUpto}
use Rattle.clean.proofs.cleaning.put_machines.Given as goal

abbrev pub invariant-loop-i : goal.invariant-loop-i
invariant-loop-i l = PutUpto (machine_by l.modes l.live) (length l.modes) l.initial.out 0 l.at l.i l.out
