use native.Mathlib.Omega.{arith}
use Rattle.picture.proofs.RowLoops.{rows_start, rows_more, rows-room, rows_end}
use Rattle.picture.proofs.rows.put_rows.Goals as goal

pub loop-a-init : goal.loop-a-init
loop-a-init g c = rows_start _ _ _ _

pub put-end-requires : goal.put-end-requires
put-end-requires g c = let more = c.loop-a-test.true in
    (omega (arith, c.requires.0, more), rows-room _ _ _ _ c.requires.1 c.loop-a.invariant more)

pub loop-a-preserved : goal.loop-a-preserved
loop-a-preserved g c = let put = c.put-end in
    let more = c.loop-a-test.true in
    rows_more _ _ _ _ c.requires.1 c.loop-a.invariant more put.auto.out (put.ensures.end, put.ensures.written)

pub returns : goal.returns
returns g c = let r = rows_end _ _ _ _ c.loop-a.invariant c.loop-a-test.false in record { end = r.0; written = r.1 }
