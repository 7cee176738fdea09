use mathlib.Core.Path.{◌≡◌}
use Rattle.plan.proofs.SetLoops.{unready-none, unready-next, unready-found, unready-end}
use Rattle.plan.proofs.grouping.next_group.Goals as goal

pub loop-i-init : goal.loop-i-init
loop-i-init c = let e : c.into_iter-i-iterator.result.rest ≡ c.minus.result = search in rw e (search unready-none)

pub returns-then-minus-eq0 : goal.returns-then-minus-eq0
returns-then-minus-eq0 c = search (unready-found, c.in-Some.ensures)

pub loop-i-preserved : goal.loop-i-preserved
loop-i-preserved c = search (unready-next, c.in-Some.ensures)

pub returns : goal.returns
returns c = search (unready-end, c.in-None.ensures)
