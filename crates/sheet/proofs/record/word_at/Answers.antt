use mathlib.Core.Path.{sym}
use native.Mathlib.Omega.{arith}
use borrow.Author.Rules.{rules}
use Rattle.sheet.specs.Record.{word}
use Rattle.sheet.proofs.Records.{word-past}
use Rattle.sheet.proofs.record.word_at.Goals as goal

pub returns-then-s-i : goal.returns-then-s-i
returns-then-s-i c = (sym (word-past _ _ c.if-s-i.true), search rules)

pub returns : goal.returns
unfolding word
returns c = omega arith
