use Rattle.sheet.proofs.Guarantees.{accepted-valid}
use Rattle.sheet.proofs.promises.accepted_is_valid.Goals as goal

pub returns : goal.returns
returns c = accepted-valid
