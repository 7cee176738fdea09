use lib.ListN.{length}
use Rattle.clean.specs.Kept.{move_by}
use Rattle.sheet.proofs.Pieces.{CountedUpto}
use Rattle.clean.proofs.cleaning.moves_length.Given as goal

abbrev pub invariant-loop-v : goal.invariant-loop-v
invariant-loop-v l = CountedUpto (move_by l.file l.places) (length l.places) l.n l.v
