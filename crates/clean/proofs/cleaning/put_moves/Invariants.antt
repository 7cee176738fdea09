use lib.ListN.{length}
use Rattle.clean.specs.Kept.{move_by}
use Rattle.sheet.proofs.Pieces.{PutUpto}
use Rattle.clean.proofs.cleaning.put_moves.Given as goal

abbrev pub invariant-loop-v : goal.invariant-loop-v
invariant-loop-v l = PutUpto (move_by l.file l.places) (length l.places) l.initial.out l.from l.at l.v l.out
