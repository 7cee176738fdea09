use mathlib.Core.Path.{◌∙◌}
use Rattle.panel.proofs.Replies.{planned-word, unplanned-word, unplanned-near}
use Rattle.panel.proofs.duty_plan.Goals as goal

pub refusal-requires : goal.refusal-requires
refusal-requires c = unplanned-near _ _ _ _ c.plan.ensures.reply c.in-Err.is
