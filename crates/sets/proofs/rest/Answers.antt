use Rattle.sets.proofs.Members.{least-cleared}
use Rattle.sets.proofs.rest.Goals as goal

pub returns : goal.returns
returns c = least-cleared c.requires c.ranges.s.fits
