use mathlib.Core.Path.{◌∙◌}
use Rattle.panel.proofs.Replies.{applied-word, unapplied-word, unapplied-near}
use Rattle.panel.proofs.duty_apply.Goals as goal

pub refusal-requires : goal.refusal-requires
refusal-requires c = unapplied-near _ _ _ _ _ c.apply.ensures.reply c.in-Err.is
