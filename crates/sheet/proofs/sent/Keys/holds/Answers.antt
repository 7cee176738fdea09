use native.Mathlib.Omega.{arith}
use mathlib.Core.Path.{refl}
use Rattle.sheet.proofs.Slots.{same-command, other-command}
use Rattle.sheet.proofs.sent.Keys.holds.Goals as goal

pub returns-then-self-at : goal.returns-then-self-at
returns-then-self-at c = same-command _ _ _ _ _ (omega arith)
    (omega arith) c.if-self-at.true refl

pub returns : goal.returns
returns c = other-command _ _ _ _ _ (omega arith)
    (omega arith) c.if-self-at.false
