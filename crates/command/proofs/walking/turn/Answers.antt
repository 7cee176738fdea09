use mathlib.Core.Path.{refl, ap, ◌∙◌}
use Rattle.std.specs.Prelude.{Ok}
use Rattle.common.specs.Reply.{and_then}
use Rattle.sheet.proofs.Passing.{passed-on}
use Rattle.command.proofs.Turns.{turned_by}
use Rattle.command.proofs.walking.turn.Goals as goal

pub returns-in_default : goal.returns-in_default
unfolding and_then
returns-in_default c =
    let r = turned_by _ _ _ _ c.next.result _ c.next.ensures (c.in_ok-command.was ∙ ap Ok c.in_default.is) (refl, refl) in
    record { reply = r.0; left = r.1 }

pub returns : goal.returns
unfolding and_then
returns c =
    let r = turned_by _ _ _ _ c.next.result _ c.next.ensures (c.in_ok-command.was ∙ ap Ok c.in-Some.is)
    (c.obey.ensures.reply, c.obey.ensures.left) in
    record { reply = r.0; left = r.1 }

pub returns-in_err-command : goal.returns-in_err-command
unfolding and_then
returns-in_err-command c =
    let r = turned_by _ _ _ _ c.next.result _ c.next.ensures c.in_err-command.was (refl, refl) in
    record { reply = rw (passed-on c.from_residual.ensures.1) r.0; left = r.1 }
