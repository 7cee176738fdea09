use mathlib.Core.Path.{sym}
use Rattle.picture.proofs.NumberAbove.{number-unread, number-none, number-found}
use Rattle.picture.proofs.matching.number_above.Goals as goal

pub returns-in_err-i : goal.returns-in_err-i
returns-in_err-i c = rw c.from_residual.ensures (number-unread c.args.text.now c.args.at _ _ c.requires.1 c.in_err-i.ensures)

pub returns-then-not-rises : goal.returns-then-not-rises
returns-then-not-rises c = number-none c.args.text.now c.args.at _ _ c.requires.1 c.in_ok-i.ensures.1 (sym c.if-not-rises.ensures)

pub returns : goal.returns
returns c = number-found c.args.text.now c.args.at _ _ c.requires.1 c.in_ok-i.ensures.1 (sym c.if-not-rises.ensures) c.requires.0
    c.width.ensures.length
