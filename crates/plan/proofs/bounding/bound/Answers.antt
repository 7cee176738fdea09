use native.Mathlib.Omega.{arith}
use Rattle.plan.specs.Kept.CostSets.{capped_cost}
use Rattle.plan.proofs.CostLoops.{cost-fits, costed-none, costed-small, costed-next, costed-end}
use Rattle.plan.proofs.bounding.bound.Goals as goal

pub loop-k-init : goal.loop-k-init
loop-k-init c = costed-none _ _ _

pub prepared-requires : goal.prepared-requires
prepared-requires c = search costed-small

pub overflow_mul-from : goal.overflow_mul-from
overflow_mul-from c = let byte = c.type_inv.longest c.loop-k.k in
    record { fits = rw c.from.ensures (cost-fits _ _ (costed-small _ _ c.loop-k.invariant) byte.fits c.prepared.ensures) }

pub overflow_add-total : goal.overflow_add-total
unfolding capped_cost
overflow_add-total c = omega arith

pub loop-k-preserved : goal.loop-k-preserved
loop-k-preserved c = let e = rw c.from.ensures at c.capped-cost.ensures in search costed-next

pub returns : goal.returns
returns c = search costed-end
