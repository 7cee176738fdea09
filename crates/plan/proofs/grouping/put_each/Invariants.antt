use mathlib.Core.Path.{◌≡◌}
use lib.ListN.{length}
use Rattle.common.proofs.Filling.{Filled}
use Rattle.plan.proofs.grouping.put_each.Given as goal

abbrev pub invariant-loop-i : goal.invariant-loop-i
invariant-loop-i g l = (length l.r ≡ 64) × Filled (goal.F-post g l.f) l.n l.i l.r
