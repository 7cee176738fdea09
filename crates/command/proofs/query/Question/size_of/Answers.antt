use borrow.Author.Rules.{rules}
use Rattle.command.specs.Kept.Question.{size_in}
use Rattle.command.proofs.Gathering.{read_at}
use Rattle.command.proofs.query.Question.size_of.Goals as goal

pub returns : goal.returns
unfolding size_in
returns c = (search read_at, search rules)
