use mathlib.Core.Path.{refl}
use Rattle.sheet.specs.Kept.Indexed.{Indexed}
use Rattle.sheet.proofs.Indexed.{accepted-indexed, refused-parse}
use Rattle.sheet.proofs.Passing.{passed-on}
use Rattle.picture.proofs.SheetDrawn.{drawn-reply, undrawn-reply}
use Rattle.picture.proofs.graph.draw.Goals as goal
use Rattle.picture.proofs.graph.draw.Goals.{In_ok-sheet}

-- the sheet that is read and accepted
indexed : (c : In_ok-sheet) → Indexed c.args.file.now c.in_ok-sheet.sheet
indexed c = accepted-indexed _ _ c.read.ensures c.in_ok-sheet.was

pub draw_read-requires : goal.draw_read-requires
draw_read-requires c = indexed (goal.at.draw_read-requires c).In_ok-sheet

pub returns : goal.returns
returns c = let i = indexed (goal.at.returns c).In_ok-sheet in
    let told = c.draw_read.ensures in record {
      reply = rw (drawn-reply i.1 _) (told.reply i.0 i.1);
      written = rw (drawn-reply i.1 _) (told.written i.0 i.1);
    }

pub returns-in_err-sheet : goal.returns-in_err-sheet
returns-in_err-sheet c = let e = refused-parse _ _ c.read.ensures c.in_err-sheet.was in record {
  reply = rw (passed-on c.from_residual.ensures.1) (rw (undrawn-reply _ _ e) refl);
  written = rw (undrawn-reply _ _ e) refl;
}
