use mathlib.Core.Path.{◌∙◌}
use Rattle.panel.proofs.Replies.{advised-word, unadvised-word, unadvised-near}
use Rattle.panel.proofs.duty_next.Goals as goal

pub refusal-requires : goal.refusal-requires
refusal-requires c = unadvised-near _ _ _ _ _ c.next.ensures c.in-Err.is
