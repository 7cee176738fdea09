use native.Mathlib.Nat.{le_refl}
use Rattle.command.proofs.GoalTest.{goal-long, goal-bad, goal-good}
use Rattle.command.proofs.goal.check.Goals as goal

pub returns-then-n-goal : goal.returns-then-n-goal
returns-then-n-goal c = λ m h e. rw c.at.ensures (goal-long m _ e c.if-n-goal.true)

pub returns-in-Some : goal.returns-in-Some
returns-in-Some c = λ m h e.
    rw c.at-in-Some.ensures (goal-bad m _ e c.if-n-goal.false (c.in-Some.ensures.first m h) c.in-Some.ensures.inside)

pub returns : goal.returns
returns c = λ m h e. goal-good m _ e c.if-n-goal.false (c.in_default.ensures.first m h) (le_refl _)
