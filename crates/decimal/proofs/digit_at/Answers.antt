use borrow.Author.Tests.{le-ltb}
use mathlib.Core.Path.{◌∙◌}
use Rattle.decimal.proofs.Short.{no-digit-past}
use Rattle.decimal.proofs.digit_at.Goals as goal

pub returns-else-at-text : goal.returns-else-at-text
returns-else-at-text c = le-ltb _ _ c.if-at-text.false ∙ no-digit-past c.args.text.now c.if-at-text.false
