use native.Mathlib.Nat.{le_refl}
use Rattle.command.proofs.StateTest.{length-refused, pair-refused, state-accepted}
use Rattle.command.proofs.state.check.Goals as goal

pub returns-then-state-n : goal.returns-then-state-n
returns-then-state-n c m q e = rw c.at.ensures (length-refused m _ e c.if-state-n.true)

pub returns-in-Some : goal.returns-in-Some
returns-in-Some c m q e =
    rw c.at-in-Some.ensures
    (pair-refused m _ e c.if-state-n.false (c.in-Some.ensures.first m q) c.in-Some.ensures.inside)

pub returns : goal.returns
returns c m q e = state-accepted m _ e c.if-state-n.false (c.in_default.ensures.first m q) (le_refl _)
