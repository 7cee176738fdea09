use mathlib.Core.Path.{refl}
use borrow.Author.Tests.{le-leb, lt-leb}
use Rattle.decimal.specs.Decimal.{is_digit}
use Rattle.decimal.proofs.is_digit.Goals as goal

pub returns-then-b-ge48 : goal.returns-then-b-ge48
unfolding is_digit
returns-then-b-ge48 c = rw (le-leb _ _ c.if-b-ge48.true) refl

pub returns-else-b-ge48 : goal.returns-else-b-ge48
unfolding is_digit
returns-else-b-ge48 c = rw (lt-leb _ _ c.if-b-ge48.false) refl
