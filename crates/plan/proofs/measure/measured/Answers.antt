use native.Mathlib.Omega.{arith}
use lib.ListN.{length-take}
use Rattle.plan.proofs.SheetGroups.{machines-fit}
use Rattle.plan.proofs.SheetLength.{small-numbers, own-length}
use Rattle.plan.proofs.measure.measured.Goals as goal

pub slice_bounds-numbers-end : goal.slice_bounds-numbers-end
slice_bounds-numbers-end c = omega (arith, machines-fit c.requires, c.groups-numbers.type_inv)

pub slice_bounds-length_of-end : goal.slice_bounds-length_of-end
slice_bounds-length_of-end c = simp length-take (omega (arith, machines-fit c.requires, c.groups-numbers.type_inv))

pub length_of-requires : goal.length_of-requires
length_of-requires c = let i = c.requires.1 in
    small-numbers i _ (c.groups-numbers.ensures _ i)

pub returns : goal.returns
returns c = λ m i.
    own-length i _ (c.groups-numbers.ensures m i) c.length_of.ensures
