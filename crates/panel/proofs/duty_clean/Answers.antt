use mathlib.Core.Path.{ap, ◌∙◌}
use Rattle.panel.specs.Words.{word_of}
use Rattle.panel.proofs.Replies.{cleaned-near}
use Rattle.panel.proofs.duty_clean.Goals as goal

pub length_word-requires : goal.length_word-requires
length_word-requires c = let j = c.clean in
    cleaned-near _ _ j.result j.ensures.reply
