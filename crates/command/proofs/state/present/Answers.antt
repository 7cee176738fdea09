use native.Mathlib.Omega.{arith}
use Rattle.command.proofs.PresentLoop.{weighed-bytes, present-none, mode-byte, sum-byte, present-next, present-end}
use Rattle.command.proofs.state.present.Goals as goal

pub loop-i-init : goal.loop-i-init
loop-i-init c = search present-none

pub mode_at-requires : goal.mode_at-requires
mode_at-requires c = let (m, w, passes, places) = c.requires in omega (arith, weighed-bytes _ w passes)

pub overflow_mul-r : goal.overflow_mul-r
overflow_mul-r c = search mode-byte

pub overflow_add-r : goal.overflow_add-r
overflow_add-r c = let (m, w, passes, places) = c.requires in
    search (sum-byte, w, passes, places, c.loop-i.invariant)

pub loop-i-preserved : goal.loop-i-preserved
loop-i-preserved c = search present-next

pub returns : goal.returns
returns c = search present-end
