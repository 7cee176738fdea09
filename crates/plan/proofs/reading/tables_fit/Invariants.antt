use lib.ListN.{get_or}
use Rattle.common.proofs.Tested.{Passed}
use Rattle.plan.specs.Reading.{has_record}
use Rattle.plan.specs.Kept.Outline.{table_bytes}
use Rattle.plan.proofs.reading.tables_fit.Given as goal

abbrev pub invariant-loop-k : goal.invariant-loop-k
invariant-loop-k l =
    Passed (λ j. has_record l.plan (get_or l.starts j 0) 17 (table_bytes (get_or l.sizes j 0))) l.count l.k
