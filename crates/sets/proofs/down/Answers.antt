use Rattle.sets.specs.Kept.Sets.{lowered}
use borrow.Author.Rules.{rules}
use Rattle.sets.proofs.down.Goals as goal

pub returns : goal.returns
unfolding lowered
returns c = search rules
