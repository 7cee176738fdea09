use mathlib.Core.Path.{refl}
use native.Mathlib.Omega.{arith}
use Rattle.decimal.proofs.Digits.{digit-within}
use Rattle.decimal.proofs.Short.{digit-inside}
use Rattle.decimal.proofs.value_at.Goals as goal

pub bounds-text-at : goal.bounds-text-at
bounds-text-at c = digit-inside c.args.text.now c.args.at c.requires

pub overflow_sub-result : goal.overflow_sub-result
overflow_sub-result c = omega (arith, c.from.ensures, (digit-within _ c.requires).0)

pub returns : goal.returns
returns c = (
  rw c.from.ensures refl,
  omega (
    arith,
    c.from.ensures,
    (digit-within _
        c.requires).1,
  ),
)
