use mathlib.Core.Path.{sym}
use borrow.Author.Tests.{eqb-true, eqb-false, not-true, not-false}
use Rattle.command.proofs.Startable.{start-foreign, start-own}
use Rattle.command.proofs.fitting.from_now.Goals as goal

pub returns-then-ne : goal.returns-then-ne
returns-then-ne c = let other = eqb-false _ _ (not-true _ (sym c.if-ne.ensures)) in search (start-foreign, other)

pub returns : goal.returns
returns c = let same = eqb-true _ _ (not-false _ (sym c.if-ne.ensures)) in search (start-own, same)
