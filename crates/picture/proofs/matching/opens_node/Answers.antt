use mathlib.Core.Path.{sym, ◌∙◌}
use borrow.Author.Tests.{lt-ltb}
use Rattle.picture.proofs.Opening.{other-line, name-room, line-here}
use Rattle.picture.proofs.matching.opens_node.Goals as goal

pub returns-then-not-names : goal.returns-then-not-names
returns-then-not-names c = rw (lt-ltb _ _ c.if-k-ge32.false)
    (other-line c.args.text.now c.args.at c.args.k _
    (sym c.names.ensures ∙ c.if-not-names.true))

pub stands-requires : goal.stands-requires
stands-requires c = name-room c.args.text.now c.args.at c.args.k c.width.ensures.length c.requires
    (sym c.names.ensures ∙ c.if-not-names.false)

pub returns : goal.returns
returns c = rw (lt-ltb _ _ c.if-k-ge32.false)
    (line-here c.args.text.now c.args.at c.args.k c.width.ensures.length _
    (sym c.names.ensures ∙ c.if-not-names.false)
    c.stands.ensures)
