use mathlib.Core.Path.{sym}
use Rattle.sheet.proofs.Indexed.{accepted-indexed, refused-parse}
use Rattle.sheet.proofs.Passing.{passed-on}
use Rattle.command.proofs.TurnedDown.{sheet-before}
use Rattle.command.proofs.advising.next.Goals as goal

pub test_shape-requires : goal.test_shape-requires
test_shape-requires c = accepted-indexed _ _ c.read.ensures c.in_ok-sheet.was

pub returns-in_err-sheet : goal.returns-in_err-sheet
returns-in_err-sheet c = let e = refused-parse _ _ c.read.ensures c.in_err-sheet.was in
    rw (passed-on c.from_residual.ensures.1) (sym ((sheet-before _ _ _ e).0 _ _ _))
