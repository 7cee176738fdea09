use Rattle.sheet.proofs.Guarantees.{index-answers}
use Rattle.sheet.proofs.promises.index_answers.Goals as goal

pub returns : goal.returns
returns c = index-answers
