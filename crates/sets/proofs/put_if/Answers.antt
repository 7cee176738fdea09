use mathlib.Core.Path.{sym}
use mathlib.Core.Bool.{or-false}
use Rattle.sets.proofs.Laws.{bit-union, bit-alone}
use Rattle.sets.proofs.put_if.Goals as goal

pub returns-then-wanted : goal.returns-then-wanted
returns-then-wanted c j = rw (c.with.ensures, bit-union, bit-alone, c.if-wanted.true)
