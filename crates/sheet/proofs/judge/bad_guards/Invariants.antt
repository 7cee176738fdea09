use mathlib.Core.Bool.{false}
use mathlib.Core.Path.{◌≡◌}
use Rattle.common.specs.Lists.{any, up_to}
use Rattle.sheet.specs.Kept.Held.{wrong_guard}
use Rattle.sheet.specs.Model.{move_of}
use Rattle.sheet.proofs.judge.bad_guards.Given as goal

abbrev pub invariant-loop-n : goal.invariant-loop-n
invariant-loop-n l = any (wrong_guard l.tops (move_of l.body)) (up_to l.n) ≡ false
