use mathlib.Core.Path.{refl}
use Rattle.sheet.specs.Record.{part}
use Rattle.command.specs.Kept.Question.{sizes_in}
use Rattle.command.proofs.query.Question.sizes.Goals as goal

pub returns : goal.returns
unfolding sizes_in part
returns c = refl
