use native.Mathlib.Omega.{arith}
use Rattle.decimal.proofs.Standing.{stand-none, stand-short, stand-next, stand-end}
use Rattle.decimal.proofs.text.stands.Goals as goal

pub returns-then-text-at : goal.returns-then-text-at
returns-then-text-at c = search stand-short

pub loop-i-init : goal.loop-i-init
loop-i-init c = stand-none _ _ _ (omega (arith, c.if-text-at.false, c.requires))

pub loop-i-preserved : goal.loop-i-preserved
loop-i-preserved c = search stand-next

pub returns : goal.returns
returns c = search stand-end
