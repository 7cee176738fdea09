use mathlib.Core.Path.{ap, ◌∙◌}
use Rattle.panel.specs.Words.{word_of}
use Rattle.panel.proofs.Replies.{measured-near}
use Rattle.panel.proofs.duty_plan_length.Goals as goal

pub length_word-requires : goal.length_word-requires
length_word-requires c = measured-near _ c.plan_length.result c.plan_length.ensures
