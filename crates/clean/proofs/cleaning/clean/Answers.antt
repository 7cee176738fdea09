use mathlib.Core.Path.{refl, sym}
use lib.Seq.{length-take-le}
use Rattle.sheet.specs.Kept.Indexed.{Indexed}
use Rattle.sheet.proofs.Indexed.{accepted-indexed, refused-parse, indexes-room}
use Rattle.sheet.proofs.Passing.{passed-on}
use Rattle.clean.proofs.Sheets.{modes-inside, live_inside, sheet-lent, clean-read, clean-unread}
use Rattle.clean.proofs.cleaning.clean.Goals as goal
use Rattle.clean.proofs.cleaning.clean.Goals.{In_ok-sheet}

-- the sheet that is read and accepted
indexed : (c : In_ok-sheet) → Indexed c.args.file.now c.in_ok-sheet.sheet
indexed c = accepted-indexed _ _ c.read.ensures c.in_ok-sheet.was

pub slice_bounds-modes-end : goal.slice_bounds-modes-end
slice_bounds-modes-end c = modes-inside (indexed (goal.at.slice_bounds-modes-end c).In_ok-sheet).1

pub slice_bounds-write-end : goal.slice_bounds-write-end
slice_bounds-write-end c = sym (length-take-le _ _ (modes-inside (indexed (goal.at.slice_bounds-write-end c).In_ok-sheet).1))

pub slice_bounds-live-end : goal.slice_bounds-live-end
slice_bounds-live-end c = live_inside (indexed (goal.at.slice_bounds-live-end c).In_ok-sheet).1

pub slice_bounds-write-end-2 : goal.slice_bounds-write-end-2
slice_bounds-write-end-2 c = sym (length-take-le _ _ (live_inside (indexed (goal.at.slice_bounds-write-end-2 c).In_ok-sheet).1))

pub slice_bounds-places-end : goal.slice_bounds-places-end
slice_bounds-places-end c = indexes-room (indexed (goal.at.slice_bounds-places-end c).In_ok-sheet).1

pub slice_bounds-write-end-3 : goal.slice_bounds-write-end-3
slice_bounds-write-end-3 c = sym (length-take-le _ _ (indexes-room (indexed (goal.at.slice_bounds-write-end-3 c).In_ok-sheet).1))

pub write-requires : goal.write-requires
write-requires c = sheet-lent (indexed (goal.at.write-requires c).In_ok-sheet).1

pub returns : goal.returns
returns c = record {
  reply = rw (clean-read (indexed (goal.at.returns c).In_ok-sheet).1 _) c.write.ensures.reply;
  written = rw (clean-read (indexed (goal.at.returns c).In_ok-sheet).1 _) c.write.ensures.written;
}

pub returns-in_err-sheet : goal.returns-in_err-sheet
returns-in_err-sheet c = let e = refused-parse _ _ c.read.ensures c.in_err-sheet.was in record {
  reply = rw (passed-on c.from_residual.ensures.1) (rw (clean-unread _ _ e) refl);
  written = rw (clean-unread _ _ e) refl;
}
