use native.Mathlib.Omega.{arith}
use Rattle.plan.specs.Kept.Outline.{table_bytes}
use Rattle.plan.proofs.GroupLoops.{byte-product}
use Rattle.plan.proofs.reading.table_length.Goals as goal

pub returns : goal.returns
unfolding table_bytes
returns c = let small = byte-product {x = c.from.result} {y = c.from-2.result} (omega arith) (omega arith) in
    (rw (c.from.ensures, c.from-2.ensures), omega arith)
