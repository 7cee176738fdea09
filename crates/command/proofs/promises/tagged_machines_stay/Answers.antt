use Rattle.command.proofs.Tags.{never-tagged}
use Rattle.command.proofs.promises.tagged_machines_stay.Goals as goal

pub returns : goal.returns
returns c = never-tagged
