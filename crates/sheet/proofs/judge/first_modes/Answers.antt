use native.Mathlib.Omega.{arith}
use Rattle.sheet.specs.Kept.Held.{top_of}
use Rattle.sheet.proofs.Modes.{shift_one}
use Rattle.sheet.proofs.judge.first_modes.Goals as goal

pub returns : goal.returns
unfolding top_of
returns c = omega (arith, shift_one c.from.ensures c.requires)
