use mathlib.Core.Path.{◌∙◌}
use Rattle.panel.proofs.Replies.{unmeasured-word, unmeasured-near}
use Rattle.panel.proofs.length_word.Goals as goal

pub refusal-requires : goal.refusal-requires
refusal-requires c = unmeasured-near c.in-Err.is c.requires
