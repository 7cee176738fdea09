use Rattle.joining.proofs.Splitting.{ReadTo}
use Rattle.joining.proofs.SharedLoop.{Narrowed}
use Rattle.joining.proofs.lent.shared.Given as goal

abbrev pub invariant-loop-goal : goal.invariant-loop-goal
invariant-loop-goal l = ReadTo l.goals l.goal-iterator.rest.now (Narrowed l.r)
