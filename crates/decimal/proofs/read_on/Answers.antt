use mathlib.Core.Path.{sym, ◌∙◌}
use native.Mathlib.Omega.{arith}
use Rattle.decimal.proofs.Short.{digit-inside, read_first, read_next, read-over, read-end}
use Rattle.decimal.proofs.read_on.Goals as goal

pub overflow_add-i : goal.overflow_add-i
overflow_add-i c = omega (arith, digit-inside c.args.text.now c.args.at c.requires.begins, c.well_formed.0.0)

pub loop-n-init : goal.loop-n-init
loop-n-init c = read_first c.requires

pub returns-then-n-gt65535 : goal.returns-then-n-gt65535
returns-then-n-gt65535 c = let digit = sym c.digit_at.ensures ∙ c.loop-n-test.true in
    read-over c.loop-n.invariant digit
    (omega (arith, c.if-n-gt65535.true, c.value_at.ensures.0))

pub overflow_add-i-in-loop-n : goal.overflow_add-i-in-loop-n
overflow_add-i-in-loop-n c = let digit = sym c.digit_at.ensures ∙ c.loop-n-test.true in
    omega (arith, digit-inside c.args.text.now c.loop-n.i digit, c.well_formed.0.0)

pub loop-n-smaller : goal.loop-n-smaller
loop-n-smaller c = let digit = sym c.digit_at.ensures ∙ c.loop-n-test.true in
    omega (
      arith,
      digit-inside c.args.text.now
          c.loop-n.i digit,
    )

pub loop-n-preserved : goal.loop-n-preserved
loop-n-preserved c = let digit = sym c.digit_at.ensures ∙ c.loop-n-test.true in
    let value = c.value_at.ensures.0 in
    rw value (read_next c.loop-n.invariant digit (omega (arith, c.if-n-gt65535.false, value)))

pub returns : goal.returns
returns c = read-end c.loop-n.invariant (sym c.digit_at.ensures ∙ c.loop-n-test.false)
