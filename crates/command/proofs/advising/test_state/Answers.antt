use Rattle.sheet.proofs.Indexed.{indexes-machines, indexes-modes, indexes-array}
use Rattle.sheet.proofs.Passing.{passed-on}
use Rattle.command.proofs.Opening.{opened-few}
use Rattle.command.proofs.Testing.{state-refused}
use Rattle.command.proofs.Verdicts.{accepted-clear}
use Rattle.command.proofs.advising.test_state.Goals as goal

pub check-requires : goal.check-requires
check-requires c = let o = c.requires.1 in (opened-few o, indexes-array o.indexes)

pub test_goal-requires : goal.test_goal-requires
test_goal-requires c = let p = c.requires in
    let i = p.1.indexes in
    let told = c.check.ensures p.0 (indexes-modes i) (indexes-machines i) in
    (p.0, p.1, accepted-clear _ told c.in_ok-check.was)

pub returns : goal.returns
returns c m o = let i = o.indexes in
    let told = c.check.ensures m (indexes-modes i) (indexes-machines i) in
    c.test_goal.ensures m o (accepted-clear _ told c.in_ok-check.was)

pub returns-in_err-check : goal.returns-in_err-check
returns-in_err-check c m o = let i = o.indexes in
    rw (passed-on c.from_residual.ensures.1)
    (state-refused m _ _ _ _ (c.check.ensures m (indexes-modes i) (indexes-machines i))
    c.in_err-check.was)
