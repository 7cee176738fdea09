use mathlib.Core.Path.{refl}
use Rattle.sheet.specs.Record.{part}
use Rattle.command.specs.Kept.Question.{weights_in}
use Rattle.command.proofs.query.Question.weights.Goals as goal

pub returns : goal.returns
unfolding weights_in part
returns c = refl
