use native.Mathlib.Omega.{arith}
use Rattle.sheet.specs.Kept.Sent.{slot_of}
use Rattle.sheet.proofs.sent.slot_of.Goals as goal

pub returns : goal.returns
unfolding slot_of
returns c = rw (c.from.ensures, c.from-2.ensures) (omega arith, omega arith)
