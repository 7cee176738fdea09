use native.Mathlib.Omega.{arith}
use Rattle.sheet.specs.Kept.Sent.{key_of}
use Rattle.sheet.proofs.sent.pair_of.Goals as goal

pub returns : goal.returns
unfolding key_of
returns c v m f k = omega (arith, c.from.ensures, c.from-2.ensures)
