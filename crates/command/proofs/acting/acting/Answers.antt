use mathlib.Core.Path.{sym, ◌∙◌}
use Rattle.command.proofs.ActingLoops.{unanswered-tagged, unanswered-next, unanswered-end, answered-here}
use Rattle.command.proofs.acting.acting.Goals as goal

pub returns-then-tag_of-ne0-clause-acts : goal.returns-then-tag_of-ne0-clause-acts
returns-then-tag_of-ne0-clause-acts c d i = search unanswered-tagged

pub returns-then-answers-clause-acts : goal.returns-then-answers-clause-acts
returns-then-answers-clause-acts c d i = let here = rw c.len-v-end.ensures at c.loop-v-test.true in
    let free = sym c.tag_of.ensures ∙ c.if-tag_of-ne0.false in
    search (answered-here, c.loop-v.invariant)

pub loop-v-preserved : goal.loop-v-preserved
loop-v-preserved c d i = let here = rw c.len-v-end.ensures at c.loop-v-test.true in
    let free = sym c.tag_of.ensures ∙ c.if-tag_of-ne0.false in
    search (unanswered-next, c.loop-v.invariant)

pub returns-clause-acts : goal.returns-clause-acts
returns-clause-acts c d i = let past = rw c.len-v-end.ensures at c.loop-v-test.false in
    search (unanswered-end, c.loop-v.invariant)
