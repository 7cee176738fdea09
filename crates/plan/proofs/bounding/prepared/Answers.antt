use mathlib.Core.Path.{◌≡◌}
use Rattle.plan.proofs.CostLoops.{prepares-none, prepares-next, prepares-fits, prepares-end}
use Rattle.plan.proofs.bounding.prepared.Goals as goal

pub loop-a-init : goal.loop-a-init
loop-a-init c = let e : c.into_iter-a-iterator.result.rest ≡ c.args.named = search in rw e (search prepares-none)

pub overflow_add-r : goal.overflow_add-r
overflow_add-r c = record { fits = search (prepares-fits, c.in-Some.ensures) }

pub loop-a-preserved : goal.loop-a-preserved
loop-a-preserved c = search (prepares-next, c.in-Some.ensures)

pub returns : goal.returns
returns c = search (prepares-end, c.in-None.ensures)
