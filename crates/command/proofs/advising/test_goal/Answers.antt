use native.Mathlib.Omega.{arith}
use mathlib.Core.Path.{sym, ◌∙◌}
use Rattle.sheet.proofs.Indexed.{indexes-valid, indexes-machines, indexes-modes, indexes-array}
use Rattle.sheet.proofs.Passing.{passed-on}
use Rattle.command.proofs.Asking.{refusals-left}
use Rattle.command.proofs.Opening.{opened-few, opened-modes}
use Rattle.command.proofs.Testing.{goal-refused}
use Rattle.command.proofs.Verdicts.{accepted-clear}
use Rattle.command.proofs.advising.test_goal.Goals as goal

pub check-requires : goal.check-requires
check-requires c = let o = c.requires.1 in (opened-few o, indexes-array o.indexes)

pub wished-masks-requires : goal.wished-masks-requires
wished-masks-requires c = let o = c.requires.1 in (opened-few o, indexes-array o.indexes, opened-modes o)

pub advise-requires : goal.advise-requires
advise-requires c = let p = c.requires in
    let i = p.1.indexes in
    let told = c.check.ensures p.0 (indexes-modes i) (indexes-machines i) in
    let passes = accepted-clear _ told c.in_ok-check.was in (
      (
        p.0,
        _,
        p.1,
        p.2,
        c.wished-masks.ensures p.0 (indexes-valid i) (indexes-modes i) (indexes-machines i) passes,
      ),
      omega (arith, c.wished-masks.type_inv),
    )

pub returns : goal.returns
returns c m o passes = let i = o.indexes in
    let told = c.check.ensures m (indexes-modes i) (indexes-machines i) in
    let good = accepted-clear _ told c.in_ok-check.was in
    let allows = c.wished-masks.ensures m (indexes-valid i) (indexes-modes i) (indexes-machines i) good in
    c.advise.ensures m _ o passes allows ∙ sym (refusals-left m _ _ _ _ passes good)

pub returns-in_err-check : goal.returns-in_err-check
returns-in_err-check c m o passes = let i = o.indexes in
    rw (passed-on c.from_residual.ensures.1)
    (goal-refused m _ _ _ _ passes (c.check.ensures m (indexes-modes i) (indexes-machines i))
    c.in_err-check.was)
