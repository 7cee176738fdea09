use Rattle.joining.proofs.Splitting.{ReadTo}
use Rattle.joining.proofs.LentLoops.{Passed}
use Rattle.joining.proofs.lent.check_each.Given as goal

abbrev pub invariant-loop-goal : goal.invariant-loop-goal
invariant-loop-goal l = ReadTo l.goals l.goal-iterator.rest.now (Passed l.modes l.n)
