use Rattle.sets.proofs.Laws.{and-not}
use Rattle.sets.proofs.minus.Goals as goal

pub returns : goal.returns
returns c = and-not 64 _ _ c.ranges.a.fits c.ranges.b.fits
