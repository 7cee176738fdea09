use mathlib.Core.Path.{sym, ◌∙◌}
use Rattle.plan.specs.Kept.Outline.{ends_at}
use Rattle.plan.proofs.reading.ends.Goals as goal

pub returns-then-not-has_record : goal.returns-then-not-has_record
unfolding ends_at
returns-then-not-has_record c = rw (sym c.has_record.ensures ∙ c.if-not-has_record.true)

pub returns-then-not-has_record-2 : goal.returns-then-not-has_record-2
unfolding ends_at
returns-then-not-has_record-2 c = rw (
  sym c.has_record.ensures ∙ c.if-not-has_record.false,
  sym c.has_record-2.ensures ∙ c.if-not-has_record-2.true,
)

pub returns : goal.returns
unfolding ends_at
returns c = rw (
  sym c.has_record.ensures ∙ c.if-not-has_record.false,
  sym c.has_record-2.ensures ∙ c.if-not-has_record-2.false,
)
