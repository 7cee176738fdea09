use Rattle.plan.proofs.Left.{sheet-first}
use Rattle.plan.proofs.promises.sheet_comes_first.Goals as goal

pub returns : goal.returns
returns c = sheet-first
