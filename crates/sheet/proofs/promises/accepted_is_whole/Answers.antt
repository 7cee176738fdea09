use Rattle.sheet.proofs.Guarantees.{accepted-whole}
use Rattle.sheet.proofs.promises.accepted_is_whole.Goals as goal

pub returns : goal.returns
returns c = accepted-whole
