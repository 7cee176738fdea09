use mathlib.Core.Path.{refl}
use Rattle.sheet.proofs.Indexed.{accepted-indexed, refused-parse}
use Rattle.sheet.proofs.Passing.{passed-on}
use Rattle.command.proofs.Acted.{apply-read}
use Rattle.command.proofs.TurnedDown.{sheet-before}
use Rattle.command.proofs.acting.apply.Goals as goal

pub test-requires : goal.test-requires
test-requires c = accepted-indexed _ _ c.read.ensures c.in_ok-sheet.was

pub returns : goal.returns
returns c =
    let i = accepted-indexed _ _ c.read.ensures c.in_ok-sheet.was in
    let test = c.test.ensures in
    record {
      reply = rw (apply-read i.1) (test.reply i.0 i.1);
      left = rw (apply-read i.1) (test.left i.0 i.1);
    }

pub returns-in_err-sheet : goal.returns-in_err-sheet
returns-in_err-sheet c =
    let e = refused-parse _ _ c.read.ensures c.in_err-sheet.was in
    record {
      reply = rw (passed-on c.from_residual.ensures.1) (rw ((sheet-before _ _ _ e).1 _ _ _) refl);
      left = rw ((sheet-before _ _ _ e).1 _ _ _) refl;
    }
