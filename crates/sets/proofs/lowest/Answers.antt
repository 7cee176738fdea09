use native.Mathlib.Omega.{arith}
use lib.Count.{trailing_le}
use Rattle.sets.specs.Kept.Sets.{least}
use borrow.Author.Rules.{rules}
use Rattle.sets.proofs.lowest.Goals as goal

pub returns : goal.returns
unfolding least
returns c = search rules
