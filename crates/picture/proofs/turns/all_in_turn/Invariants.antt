use Rattle.picture.proofs.TurnLoop.{TurnSets}
use Rattle.picture.proofs.turns.all_in_turn.Given as goal

abbrev pub invariant-loop-k : goal.invariant-loop-k
invariant-loop-k l =
    TurnSets l.numbers l.targets l.k l.waiting l.later l.held
