use mathlib.Core.Path.{sym, ◌∙◌}
use Rattle.picture.proofs.Opening.{other-line, name-room, line-here}
use Rattle.picture.proofs.matching.opens_edge.Goals as goal

pub returns-then-not-names : goal.returns-then-not-names
returns-then-not-names c = other-line c.args.text.now c.args.at c.args.a _
    (sym c.names.ensures ∙ c.if-not-names.true)

pub stands-requires : goal.stands-requires
stands-requires c = name-room c.args.text.now c.args.at c.args.a c.width.ensures.length c.requires.0
    (sym c.names.ensures ∙ c.if-not-names.false)

pub returns : goal.returns
returns c = line-here c.args.text.now c.args.at c.args.a c.width.ensures.length _
    (sym c.names.ensures ∙ c.if-not-names.false)
    c.stands.ensures
