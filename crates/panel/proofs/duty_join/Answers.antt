use mathlib.Core.Path.{ap, ◌∙◌}
use Rattle.panel.specs.Words.{word_of}
use Rattle.panel.proofs.Replies.{joined-near}
use Rattle.panel.proofs.duty_join.Goals as goal

pub length_word-requires : goal.length_word-requires
length_word-requires c = let j = c.join in
    joined-near _ _ _ j.result j.ensures.reply
