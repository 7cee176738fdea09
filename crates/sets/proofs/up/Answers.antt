use Rattle.sets.specs.Kept.Sets.{raised}
use borrow.Author.Rules.{rules}
use Rattle.sets.proofs.up.Goals as goal

pub returns : goal.returns
unfolding raised
returns c = search rules
