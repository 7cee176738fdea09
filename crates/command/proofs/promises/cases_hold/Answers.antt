use Rattle.command.specs.Cases.{cases-hold}
use Rattle.command.proofs.promises.cases_hold.Goals as goal

pub returns : goal.returns
returns c = cases-hold
