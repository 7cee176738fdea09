use native.Mathlib.Omega.{arith}
use Rattle.plan.proofs.TableStarts.{starts_none, starts-next, starts-end}
use Rattle.plan.proofs.reading.starts.Goals as goal

pub loop-k-init : goal.loop-k-init
loop-k-init c = search starts_none

pub loop-k-preserved : goal.loop-k-preserved
loop-k-preserved c = let bytes = c.table_length.ensures in
    starts-next _ _ c.loop-k.invariant (omega arith) bytes.0 bytes.1

pub returns : goal.returns
returns c = search (arith, starts-end)
