use Rattle.sheet.proofs.Closing.{Closing}
use Rattle.sheet.proofs.amending.closed.Given as goal

abbrev pub invariant-loop-v : goal.invariant-loop-v
invariant-loop-v l = Closing l.places l.packed l.n l.v
