use borrow.Author.Rules.{rules}
use Rattle.command.specs.Kept.Question.{present_in}
use Rattle.command.proofs.Gathering.{read_at}
use Rattle.command.proofs.query.Question.mode_now.Goals as goal

pub returns : goal.returns
unfolding present_in
returns c = (search read_at, search rules)
