use mathlib.Core.Path.{refl}
use Rattle.sheet.specs.Kept.Indexed.{Indexed}
use Rattle.sheet.proofs.Indexed.{accepted-indexed, refused-parse, indexes-machines, indexes-modes, indexes-array}
use Rattle.sheet.proofs.Passing.{passed-on}
use Rattle.plan.proofs.SheetGroups.{few-machines}
use Rattle.joining.proofs.JoinReply.{join-read, join-unread}
use Rattle.joining.proofs.joining.join.Goals as goal
use Rattle.joining.proofs.joining.join.Goals.{In_ok-sheet}

-- the sheet that is read and accepted
indexed : (c : In_ok-sheet) → Indexed c.args.file.now
    c.in_ok-sheet.sheet
indexed c = accepted-indexed _ _ c.read.ensures c.in_ok-sheet.was

pub join_goals-requires : goal.join_goals-requires
join_goals-requires c = let i = indexed (goal.at.join_goals-requires c).In_ok-sheet in (
  (i.0, indexes-modes i.1, indexes-machines i.1),
  few-machines i,
  indexes-array i.1,
)

pub returns : goal.returns
returns c = let i = indexed (goal.at.returns c).In_ok-sheet in
    let replies = c.join_goals.ensures in record {
      reply = rw (join-read _ _ _ i.1) (replies.reply i.0 (indexes-modes i.1) (indexes-machines i.1));
      written = rw (join-read _ _ _ i.1) (replies.written i.0 (indexes-modes i.1) (indexes-machines i.1));
    }

pub returns-in_err-sheet : goal.returns-in_err-sheet
returns-in_err-sheet c = let e = refused-parse _ _ c.read.ensures c.in_err-sheet.was in record {
  reply = rw (passed-on c.from_residual.ensures.1) (rw (join-unread _ _ _ e) refl);
  written = rw (join-unread _ _ _ e) refl;
}
