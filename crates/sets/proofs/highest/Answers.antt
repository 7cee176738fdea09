use native.Mathlib.Omega.{arith}
use lib.Count.{leading_le}
use borrow.Author.Rules.{rules}
use Rattle.sets.proofs.Greatest.{zeros-few, greatest-below, greatest-member, greatest-above}
use Rattle.sets.proofs.highest.Goals as goal

pub returns : goal.returns
returns c = (greatest-below _ c.requires (search rules), greatest-member _ c.requires (search rules), greatest-above _ c.requires (search rules))
