use Rattle.command.proofs.Tags.{laid_out}
use Rattle.command.proofs.promises.states_are_laid_out.Goals as goal

pub returns : goal.returns
returns c = laid_out
