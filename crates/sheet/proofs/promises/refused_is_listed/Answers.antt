use Rattle.sheet.proofs.Guarantees.{refused-listed}
use Rattle.sheet.proofs.promises.refused_is_listed.Goals as goal

pub returns : goal.returns
returns c = refused-listed
