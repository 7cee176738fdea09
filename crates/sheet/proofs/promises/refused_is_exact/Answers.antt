use Rattle.sheet.proofs.Refusals.{refused-exactly}
use Rattle.sheet.proofs.promises.refused_is_exact.Goals as goal

pub returns : goal.returns
returns c = refused-exactly
