use mathlib.Core.Path.{sym, ◌∙◌}
use Rattle.decimal.proofs.Short.{one-stands, two-stand}
use Rattle.decimal.proofs.stands.Goals as goal

pub returns-then-n-lt10 : goal.returns-then-n-lt10
returns-then-n-lt10 c = c.has.ensures ∙ one-stands c.args.text.now c.args.at c.args.n c.if-n-lt10.true

pub returns-then-has : goal.returns-then-has
returns-then-has c = let both = two-stand c.args.text.now c.args.at c.args.n
    c.if-n-lt10.false c.requires.1 in
    c.has-then-has.ensures ∙ rw (sym c.has-2.ensures, c.if-has.true) at both

pub returns-else-has : goal.returns-else-has
returns-else-has c = let both = two-stand c.args.text.now c.args.at c.args.n c.if-n-lt10.false
    c.requires.1 in
    c.if-has.false ∙ rw (sym c.has-2.ensures, c.if-has.false) at both
