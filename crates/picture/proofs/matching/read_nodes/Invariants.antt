use Prim.Native.Nat.{◌-◌}
use mathlib.Core.Path.{◌≡◌}
use lib.ListN.{length}
use Rattle.picture.proofs.NodeLoop.{NodesUpto}
use Rattle.picture.proofs.matching.read_nodes.Given as goal

abbrev pub invariant-loop-seen : goal.invariant-loop-seen
invariant-loop-seen l =
    (length l.numbers ≡ length l.initial.numbers) × NodesUpto l.text l.numbers l.seen l.k l.at

abbrev pub decreases-loop-seen : goal.decreases-loop-seen
decreases-loop-seen l = 32 - l.k
