use native.Mathlib.Omega.{arith}
use Rattle.plan.specs.Kept.CostSets.{capped_cost}
use Rattle.plan.proofs.bounding.capped.Goals as goal

pub returns : goal.returns
unfolding capped_cost
returns c = omega arith
