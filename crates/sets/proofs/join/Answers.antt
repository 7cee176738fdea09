use Rattle.sets.specs.Kept.Sets.{union}
use borrow.Author.Rules.{rules}
use Rattle.sets.proofs.join.Goals as goal

pub returns : goal.returns
unfolding union
returns c = search rules
