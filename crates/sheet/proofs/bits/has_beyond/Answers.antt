use mathlib.Core.Path.{sym}
use native.Mathlib.Omega.{arith}
use borrow.Author.Rules.{rules}
use Rattle.common.specs.Bits.{beyond}
use Rattle.sheet.proofs.Modes.{beyond-past}
use Rattle.sheet.proofs.bits.has_beyond.Goals as goal

pub returns-then-n-ge8 : goal.returns-then-n-ge8
returns-then-n-ge8 c = sym (beyond-past _ _ (omega arith) c.if-n-ge8.true)

pub returns : goal.returns
unfolding beyond
returns c = search rules
