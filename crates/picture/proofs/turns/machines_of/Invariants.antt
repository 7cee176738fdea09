use mathlib.Core.Path.{◌≡◌}
use mathlib.Core.Bool.{true}
use Rattle.common.specs.Bits.{bit}
use Rattle.search.proofs.Gather.{Gathers}
use Rattle.picture.proofs.turns.machines_of.Given as goal

abbrev pub invariant-loop-g : goal.invariant-loop-g
invariant-loop-g l = Gathers l.members l.groups l.g-iterator.rest l.r × ((g : _) → bit l.g-iterator.rest g ≡ true → bit l.groups g ≡ true)
