use mathlib.Core.Path.{sym}
use native.Mathlib.Omega.{arith}
use borrow.Author.Rules.{rules}
use Rattle.common.specs.Bits.{bit}
use Rattle.sheet.proofs.Modes.{bit_past}
use Rattle.sheet.proofs.bits.has_mode.Goals as goal

pub returns-then-mode-ge8 : goal.returns-then-mode-ge8
returns-then-mode-ge8 c = sym (bit_past _ _ (omega arith) c.if-mode-ge8.true)

pub returns : goal.returns
unfolding bit
returns c = search rules
