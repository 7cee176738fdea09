use Rattle.picture.proofs.GaplessSet.{gapless-none, gapless-is, gapless-not}
use Rattle.picture.proofs.matching.machine_count.Goals as goal

pub returns-then-s-eq0 : goal.returns-then-s-eq0
returns-then-s-eq0 c = gapless-none c.if-s-eq0.true

pub returns-then-s-first : goal.returns-then-s-first
returns-then-s-first c = let top = c.highest-n.ensures in
    gapless-not c.ranges.s.fits top.1 top.2 c.first.ensures
    top.0 c.if-s-first.true

pub returns : goal.returns
returns c = let top = c.highest-n.ensures in
    gapless-is c.ranges.s.fits top.1 top.2 c.first.ensures c.if-s-first.false
