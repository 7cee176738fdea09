use Rattle.sets.proofs.Laws.{one_shifted}
use Rattle.sets.proofs.one.Goals as goal

pub returns : goal.returns
returns c = one_shifted c.requires
