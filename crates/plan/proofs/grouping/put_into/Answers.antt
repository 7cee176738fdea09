use Prim.Native.Nat.{◌<◌}
use mathlib.Core.Path.{◌∙◌}
use native.Mathlib.Omega.{arith}
use Rattle.plan.proofs.TargetLoops.{put-fits, put_next, put-end}
use Rattle.plan.proofs.grouping.put_into.Goals as goal

pub bounds-into-a : goal.bounds-into-a
bounds-into-a c = let number = c.from-a.ensures ∙ c.group_of-own.ensures in
    let l : c.from-a.result < 32 = search (put-fits, number, c.in-Some.ensures) in
    omega arith

pub bounds-into-a-in-loop-j : goal.bounds-into-a-in-loop-j
bounds-into-a-in-loop-j c = let number = c.from-a.ensures ∙ c.group_of-own.ensures in
    let l : c.from-a.result < 32 = search (put-fits, number, c.in-Some.ensures) in
    omega arith

pub loop-j-preserved : goal.loop-j-preserved
loop-j-preserved c = let number = c.from-a.ensures ∙ c.group_of-own.ensures in
    search (put_next, c.in-Some.ensures, number)

pub returns : goal.returns
returns c = search (put-end, c.in-None.ensures)
