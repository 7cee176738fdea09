use Rattle.sets.specs.Kept.Sets.{both}
use borrow.Author.Rules.{rules}
use Rattle.sets.proofs.meet.Goals as goal

pub returns : goal.returns
unfolding both
returns c = search rules
