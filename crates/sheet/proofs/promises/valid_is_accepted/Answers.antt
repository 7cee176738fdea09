use Rattle.sheet.proofs.Guarantees.{valid-accepted}
use Rattle.sheet.proofs.promises.valid_is_accepted.Goals as goal

pub returns : goal.returns
returns c = valid-accepted
