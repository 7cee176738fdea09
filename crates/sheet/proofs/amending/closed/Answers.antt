use native.Mathlib.Omega.{arith}
use Rattle.sheet.proofs.Closing.{closing-nothing, closing-few, closing-kept, closing-passed}
use Rattle.sheet.proofs.Closing.{closing-count, closing-array}
use Rattle.sheet.proofs.amending.closed.Goals as goal
use Rattle.sheet.proofs.amending.closed.Goals.{then-places-v-ne0, else-places-v-ne0}

pub loop-v-init : goal.loop-v-init
loop-v-init c = closing-nothing _

pub offset_bounds-packed-n : goal.offset_bounds-packed-n
offset_bounds-packed-n c = omega (arith, closing-few c.loop-v.invariant)

pub bounds-packed-n : goal.bounds-packed-n
bounds-packed-n c = omega (arith, closing-few c.loop-v.invariant)

pub overflow_add-n : goal.overflow_add-n
overflow_add-n c = omega (arith, closing-few c.loop-v.invariant)

pub loop-v-preserved : goal.loop-v-preserved
loop-v-preserved c =
    let h = c.loop-v.invariant in
    let few = closing-few h in
    elim c.if-places-v-ne0.branch [
      | then-places-v-ne0 w ↦ rw (w.packed-is, w.n-is) (closing-kept h (omega arith) w.if-places-v-ne0.true (omega arith))
      | else-places-v-ne0 w ↦ rw (w.packed-is, w.n-is) (closing-passed h (omega arith) w.if-places-v-ne0.false)
    ]

pub returns : goal.returns
returns c = let h = c.loop-v.invariant in
    let none = c.requires.2 in
    (closing-count h c.loop-v-test.false none, closing-array h c.loop-v-test.false none)
