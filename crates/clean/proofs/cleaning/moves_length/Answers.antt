use native.Mathlib.Omega.{arith}
use Rattle.sheet.proofs.Pieces.{counted_none}
use Rattle.clean.proofs.Writing.{moves_next, moves-room, moves-counted}
use Rattle.clean.proofs.cleaning.moves_length.Goals as goal

pub loop-v-init : goal.loop-v-init
loop-v-init c = counted_none _ _

pub overflow_add-n-in-loop-v : goal.overflow_add-n-in-loop-v
overflow_add-n-in-loop-v c = omega (arith, moves-room _ _ c.loop-v.invariant c.loop-v-test.true c.body_of.ensures c.requires)

pub loop-v-preserved : goal.loop-v-preserved
loop-v-preserved c = search moves_next

pub returns : goal.returns
returns c = let r = moves-counted _ _ c.loop-v.invariant c.requires c.loop-v-test.false in record { short = r.0; length = r.1 }
