use mathlib.Core.Path.{◌∙◌}
use Rattle.sheet.proofs.Passing.{passed-on}
use Rattle.command.proofs.Turns.{obeyed-by, made-told}
use Rattle.command.proofs.walking.obey.Goals as goal

pub returns : goal.returns
returns c =
    let r = obeyed-by _ _ _ _ c.apply.result _ c.apply.ensures.reply c.in_ok-made.was c.apply.ensures.left in
    record { reply = made-told c.args.file.now c.args.state.now _ _ _ ∙ r.0; left = r.1 }

pub returns-in_err-made : goal.returns-in_err-made
returns-in_err-made c =
    let r = obeyed-by _ _ _ _ c.apply.result _ c.apply.ensures.reply c.in_err-made.was c.apply.ensures.left in
    record { reply = rw (passed-on c.from_residual.ensures.1) r.0; left = r.1 }
