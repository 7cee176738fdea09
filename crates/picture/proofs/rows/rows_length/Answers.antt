use Rattle.picture.proofs.RowLoops.{rows-counted-none, rows-counted-next, rows-counted}
use Rattle.picture.proofs.rows.rows_length.Goals as goal

pub loop-a-init : goal.loop-a-init
loop-a-init g c = rows-counted-none _ _

pub loop-a-preserved : goal.loop-a-preserved
loop-a-preserved g c = let len = c.length-r.ensures in
    rows-counted-next _ _ c.loop-a.invariant c.loop-a-test.true len.length len.short

pub returns : goal.returns
returns g c = let r = rows-counted _ _ c.requires c.loop-a.invariant c.loop-a-test.false in record { short = r.0; length = r.1 }
