use mathlib.Core.Path.{◌≡◌}
use lib.ListN.{length}
use Rattle.common.specs.Graph.{Graph}
use Rattle.plan.specs.Kept.MachineSets.{Grouped}
use Rattle.plan.proofs.Marking.{Marks}
use Rattle.plan.proofs.grouping.number.Given as goal

abbrev pub invariant-loop-k : goal.invariant-loop-k
invariant-loop-k l =
    (length l.numbers ≡ 64) × ((g : Graph) → Grouped g l.n l.groups l.outside → Marks g l.k l.numbers l.numbered)
