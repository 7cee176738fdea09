use mathlib.Core.Path.{ap}
use lib.ListN.{take}
use Rattle.sheet.specs.Record.{part}
use Rattle.command.specs.Kept.Question.{numbers_in}
use Rattle.command.proofs.query.Question.numbers.Goals as goal

pub returns : goal.returns
unfolding numbers_in part
returns c = ap (λ n. take n c.args.self.now.facts.now) c.machines_in-n.ensures
