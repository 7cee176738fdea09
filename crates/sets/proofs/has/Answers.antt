use Rattle.common.specs.Bits.{bit}
use borrow.Author.Rules.{rules}
use Rattle.sets.proofs.has.Goals as goal

pub returns : goal.returns
unfolding bit
returns c = search rules
