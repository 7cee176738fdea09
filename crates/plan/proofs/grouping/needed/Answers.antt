use mathlib.Core.Path.{sym}
use native.Mathlib.Omega.{arith}
use lib.Seq.{length-take-le}
use Rattle.sheet.proofs.Indexed.{indexes-valid, indexes-room, indexes-listed}
use Rattle.plan.proofs.NeedSets.{reads_none, reads_end, turn-fits, turn-reads}
use Rattle.plan.proofs.NamedGroups.{turn-some}
use Rattle.plan.proofs.grouping.needed.Goals as goal

pub slice_bounds-moves-end : goal.slice_bounds-moves-end
slice_bounds-moves-end c = sym (length-take-le _ _ (indexes-room c.requires.1))

pub loop-v-init : goal.loop-v-init
loop-v-init c m l valid = reads_none m

pub bounds-b-0 : goal.bounds-b-0
bounds-b-0 c = let h = rw c.len-v-end.ensures at c.loop-v-test.true in search (turn-some, indexes-listed)

pub bounds-next-i : goal.bounds-next-i
bounds-next-i c = let h = rw c.len-v-end.ensures at c.loop-v-test.true in search (turn-fits, indexes-listed, indexes-valid)

pub bounds-next-i-in-loop-v : goal.bounds-next-i-in-loop-v
bounds-next-i-in-loop-v c = let h = rw c.len-v-end.ensures at c.loop-v-test.true in search (turn-fits, indexes-listed, indexes-valid)

pub loop-v-preserved : goal.loop-v-preserved
loop-v-preserved c m l valid = let r = c.loop-v.invariant m l valid in
    let h = rw c.len-v-end.ensures at c.loop-v-test.true in search turn-reads

pub returns : goal.returns
returns c m i = let l = indexes-listed i in
    let valid = indexes-valid i in
    reads_end valid (c.loop-v.invariant m l valid) (omega (arith, l.one_each, c.len-v-end.ensures, c.loop-v-test.false))
