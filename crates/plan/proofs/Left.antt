-- A sheet that is refused is refused alike by both calls, and what planning leaves in the bytes it was lent.
-- Assumes nothing.
use Prim.Native.Nat.{ℕ}
use mathlib.Core.Path.{◌≡◌, refl, ap}
use mathlib.Core.List.{List}
use lib.ListN.{length, length-replicate}
use Rattle.common.specs.Reply.{Reply, given, refused}
use Rattle.common.proofs.Pad.{get_or-zeros}
use Rattle.sheet.specs.Record.{byte}
use Rattle.plan.specs.Planning.{plan_reply, scratch_after}
use Rattle.plan.specs.Promised.{SheetFirst, LeftRight}
use Rattle.plan.proofs.Planning.{plan-unread, length-unread}

pub sheet-first : SheetFirst
sheet-first sheet n p e = (length-unread sheet e, λ buffer scratch. plan-unread sheet buffer scratch e)

module _ (scratch : List ℕ) where
  cleared : (plan : List ℕ) (i : ℕ) → byte (scratch_after (given plan) scratch) i ≡ 0
  cleared plan i = get_or-zeros (length scratch) i

  kept : (n p : ℕ) → scratch_after (refused n p) scratch ≡ scratch
  kept n p = refl

  same_length : (r : Reply (List ℕ)) → length (scratch_after r scratch) ≡ length scratch
  same_length (given plan) = length-replicate (length scratch) 0
  same_length (refused n p) = ap length (kept n p)

pub left-right : (sheet buffer scratch : List ℕ) → LeftRight sheet buffer scratch
left-right sheet buffer scratch =
    record {
      plan-written = λ plan e. rw e;
      same_length = same_length scratch (plan_reply sheet (length buffer) (length scratch));
      all-zero = λ plan e i. rw e (cleared scratch plan i);
      buffer-kept = λ n p e. rw e;
      scratch-kept = λ n p e. rw e (kept scratch n p);
    }
