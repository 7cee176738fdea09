use mathlib.Core.Path.{sym, ap, ◌∙◌}
use Rattle.sheet.specs.Refusal.{measured_of}
use Rattle.sheet.proofs.Indexed.{accepted-indexed, refused-parse}
use Rattle.sheet.proofs.Passing.{passed-on}
use Rattle.plan.proofs.Planning.{length-unread}
use Rattle.plan.proofs.SheetLength.{length-read}
use Rattle.plan.proofs.measure.plan_length.Goals as goal

pub measured-requires : goal.measured-requires
measured-requires c = accepted-indexed _ _ c.read.ensures c.in_ok-sheet.was

pub returns : goal.returns
returns c = let i = accepted-indexed _ _ c.read.ensures c.in_ok-sheet.was in
    c.measured.ensures i.0 i.1 ∙ sym (length-read i.1)

pub returns-in_err-sheet : goal.returns-in_err-sheet
returns-in_err-sheet c =
    ap measured_of (passed-on c.from_residual.ensures.1)
    ∙ sym (length-unread _ (refused-parse _ _ c.read.ensures c.in_err-sheet.was))
