use Rattle.joining.proofs.Splitting.{ReadTo}
use Rattle.joining.proofs.LentLoops.{Longest}
use Rattle.joining.proofs.lent.longest.Given as goal

abbrev pub invariant-loop-goal : goal.invariant-loop-goal
invariant-loop-goal l = ReadTo l.goals l.goal-iterator.rest.now (Longest l.r)
