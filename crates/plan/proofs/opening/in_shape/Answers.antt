use mathlib.Core.Path.{sym}
use Rattle.plan.proofs.GroupLoops.{large-there, large-nowhere}
use Rattle.plan.proofs.PlanShape.{large-wrong, needs-wrong, shape-judged}
use Rattle.plan.proofs.opening.in_shape.Goals as goal

pub returns-then-is_some : goal.returns-then-is_some
returns-then-is_some c = λ m valid fit o.
    let found = c.first_large.ensures in
    sym (large-wrong valid fit o found.first (large-there _ found.inside c.if-is_some.ensures))

pub returns-then-not-needs_come_first : goal.returns-then-not-needs_come_first
returns-then-not-needs_come_first c = λ m valid fit o. sym (needs-wrong valid fit o c.needs_come_first.ensures c.if-not-needs_come_first.true)

pub returns : goal.returns
returns c = λ m valid fit o.
    shape-judged valid fit o c.needs_come_first.ensures c.first_large.ensures.first
    (large-nowhere _ c.if-is_some.ensures) c.if-not-needs_come_first.false c.records_fit.ensures
