use mathlib.Core.Path.{ap, ◌∙◌}
use Rattle.panel.specs.Words.{word_of}
use Rattle.panel.proofs.Replies.{drawn-near}
use Rattle.panel.proofs.duty_graph.Goals as goal

pub length_word-requires : goal.length_word-requires
length_word-requires c = let j = c.draw in
    drawn-near _ _ j.result j.ensures.reply
