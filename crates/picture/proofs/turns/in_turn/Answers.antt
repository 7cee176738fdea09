use native.Mathlib.Omega.{arith}
use Rattle.sets.proofs.Members.{least-below}
use borrow.Author.Rules.{rules}
use Rattle.picture.proofs.turns.in_turn.Goals as goal

pub overflow_cast-lowest : goal.overflow_cast-lowest
overflow_cast-lowest c = omega (arith, c.lowest.ensures, least-below (search rules) c.if-ready-eq0.false)
