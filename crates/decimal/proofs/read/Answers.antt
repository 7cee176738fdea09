use mathlib.Core.Path.{sym, ◌∙◌}
use native.Mathlib.Omega.{arith}
use Rattle.decimal.specs.Decimal.{digit}
use Rattle.decimal.proofs.Digits.{digit-within}
use Rattle.decimal.proofs.Short.{digit-inside, none_read, zero-read}
use Rattle.decimal.proofs.read.Goals as goal
use Rattle.decimal.proofs.read.Goals.{else-first-eq0-via-then-first-eq0+else-digit_at, else-first-eq0-via-else-first-eq0}

pub returns-then-not-digit_at : goal.returns-then-not-digit_at
returns-then-not-digit_at c = none_read c.args.text.now c.args.at (sym c.digit_at.ensures ∙ c.if-not-digit_at.true)

pub overflow_add-at : goal.overflow_add-at
overflow_add-at c = let first = sym c.digit_at.ensures ∙ c.if-not-digit_at.false in
    omega (arith, digit-inside c.args.text.now c.args.at first, c.well_formed.0.0)

pub returns-then-digit_at : goal.returns-then-digit_at
returns-then-digit_at c = let first = sym c.digit_at.ensures ∙ c.if-not-digit_at.false in
    zero-read c.args.text.now c.args.at
    (omega (arith, c.value_at-first.ensures.0, c.if-first-eq0.true, (digit-within _ first).0))
    (sym c.digit_at-then-first-eq0.ensures ∙ c.if-digit_at.true)

pub read_on-requires : goal.read_on-requires
unfolding digit
read_on-requires c =
    let first = sym c.digit_at.ensures ∙ c.if-not-digit_at.false in
    record {
      begins = first;
      small = c.value_at-first.ensures.1;
      value = omega (arith, c.value_at-first.ensures.0, (digit-within _ first).0);
      ends = λ z. elim c.else-first-eq0.branch [
        | else-first-eq0-via-then-first-eq0+else-digit_at w ↦ sym w.digit_at-then-first-eq0.ensures ∙ w.if-digit_at.false
        | else-first-eq0-via-else-first-eq0 w ↦ absurd (w.if-first-eq0.false z)
      ];
    }
