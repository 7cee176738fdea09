use mathlib.Core.Path.{sym, ◌∙◌}
use borrow.Author.Tests.{eq-eqb, ne_eqb}
use Rattle.common.proofs.Tested.{passed_none, passed-next, passed-all, one-fails}
use Rattle.plan.specs.Kept.Outline.{lower_named}
use Rattle.plan.proofs.reading.needs_come_first.Goals as goal

pub loop-k-init : goal.loop-k-init
loop-k-init c = passed_none _ _

pub returns-then-down-ne0 : goal.returns-then-down-ne0
unfolding lower_named
returns-then-down-ne0 c = one-fails _ _ c.loop-k-test.true
    (ne_eqb _ 0 (λ e. c.if-down-ne0.true (c.down.ensures ∙ e)))

pub loop-k-preserved : goal.loop-k-preserved
loop-k-preserved c = passed-next _ _ c.loop-k.invariant c.loop-k-test.true
    (eq-eqb _ 0 (sym c.down.ensures ∙ c.if-down-ne0.false))

pub returns : goal.returns
unfolding lower_named
returns c = search passed-all
