use mathlib.Core.Path.{sym, ◌∙◌}
use Rattle.plan.proofs.RecordTests.{record-cut, record-other, record-long}
use Rattle.plan.proofs.reading.has_record.Goals as goal

pub returns-in_default : goal.returns-in_default
returns-in_default c = search record-cut

pub returns-then-record-from : goal.returns-then-record-from
returns-then-record-from c = let n = c.from-2.ensures ∙ c.from.ensures in
    record-other _ _ c.record_at.ensures _ _ c.in-Some.is (λ k. c.if-record-from.true (k ∙ sym n))

pub returns : goal.returns
returns c = record-long _ _ c.record_at.ensures _ _ c.in-Some.is (c.if-record-from.false ∙ c.from-2.ensures ∙ c.from.ensures)
