use mathlib.Core.Path.{sym, ◌∙◌}
use Rattle.common.proofs.Tested.{passed_none, passed-next, passed-all, one-fails}
use Rattle.plan.specs.Kept.Outline.{tables_fit}
use Rattle.plan.proofs.reading.tables_fit.Goals as goal

pub loop-k-init : goal.loop-k-init
loop-k-init c = passed_none _ _

pub returns-then-not-has_record : goal.returns-then-not-has_record
unfolding tables_fit
returns-then-not-has_record c = one-fails _ _ c.loop-k-test.true
    (rw (← c.table_length-len.ensures.0)
    (sym c.has_record.ensures ∙ c.if-not-has_record.true))

pub loop-k-preserved : goal.loop-k-preserved
loop-k-preserved c = passed-next _ _ c.loop-k.invariant c.loop-k-test.true
    (rw (← c.table_length-len.ensures.0)
    (sym c.has_record.ensures ∙ c.if-not-has_record.false))

pub returns : goal.returns
unfolding tables_fit
returns c = search passed-all
