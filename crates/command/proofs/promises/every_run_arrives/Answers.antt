use Rattle.command.proofs.Arrival.{arrival}
use Rattle.command.proofs.promises.every_run_arrives.Goals as goal

pub returns : goal.returns
returns c = arrival
