use mathlib.Core.Path.{sym, ◌∙◌}
use Rattle.picture.proofs.Opening.{no_name, name-here, name-start-room}
use Rattle.picture.proofs.matching.names.Goals as goal

pub stands-requires-then-stands : goal.stands-requires-then-stands
stands-requires-then-stands c = (
  name-start-room c.args.text.now c.args.at c.args.k c.requires.0
      (sym c.stands.ensures ∙ c.if-stands.true),
  c.requires.1,
)

pub returns-then-stands : goal.returns-then-stands
returns-then-stands c = name-here c.args.text.now c.args.at c.args.k
    (sym c.stands.ensures ∙ c.if-stands.true) c.stands-then-stands.ensures

pub returns-else-stands : goal.returns-else-stands
returns-else-stands c = c.if-stands.false ∙ no_name c.args.text.now c.args.at c.args.k
    (sym c.stands.ensures ∙ c.if-stands.false)
