use mathlib.Core.Path.{sym}
use mathlib.Core.Bool.{or-false}
use native.Mathlib.Omega.{arith}
use borrow.Author.Tests.{ne_eqb}
use Rattle.sets.proofs.Laws.{bit-union, bit-alone}
use Rattle.sets.proofs.put.Goals as goal

pub returns-then-i-lt64 : goal.returns-then-i-lt64
returns-then-i-lt64 c j h = rw (c.with.ensures, bit-union, bit-alone)
