use Rattle.command.proofs.Arrival.{arrival-by-laws}
use Rattle.command.proofs.promises.lawful_plans_arrive.Goals as goal

pub returns : goal.returns
returns c = arrival-by-laws
