use mathlib.Core.Path.{sym, ap, ◌∙◌}
use Rattle.sheet.specs.Refusal.{verdict_says}
use Rattle.sheet.proofs.Passing.{passed-on}
use Rattle.joining.proofs.LentLoops.{passed-next, passed-refused, passed-end}
use Rattle.joining.proofs.lent.check_each.Goals as goal

pub returns-in_err-check : goal.returns-in_err-check
returns-in_err-check c m each q e h =
    rw (passed-on c.from_residual.ensures.1)
    (sym (ap verdict_says c.in_err-check.was) ∙ search (passed-refused, c.in-Some.ensures, c.in_err-check.was))

pub loop-goal-preserved : goal.loop-goal-preserved
loop-goal-preserved c = search (passed-next, c.in-Some.ensures, c.in_ok-check.was)

pub returns : goal.returns
returns c = search (passed-end, c.in-None.ensures)
