use borrow.Author.Rules.{rules}
use Rattle.decimal.specs.Decimal.{decimal}
use Rattle.decimal.proofs.Putting.{put_one, put_two, room-one, room-first, room-second}
use Rattle.decimal.proofs.put.Goals as goal

pub put_digit-requires : goal.put_digit-requires
put_digit-requires c = search room-one

pub returns-then-n-lt10 : goal.returns-then-n-lt10
returns-then-n-lt10 c =
    let digit = c.put_digit.ensures in
    let r = put_one _ _ _ c.if-n-lt10.true (digit.end, digit.written) in
    record { end = r.0; written = r.1 }

pub put_digit-end-requires : goal.put_digit-end-requires
put_digit-end-requires c = search room-first

pub put_digit-requires-then-n-lt100 : goal.put_digit-requires-then-n-lt100
put_digit-requires-then-n-lt100 c = search room-second

pub returns-then-n-lt100 : goal.returns-then-n-lt100
returns-then-n-lt100 c =
    let first = c.put_digit-end.ensures in
    let last = c.put_digit-then-n-lt100.ensures in
    let r = put_two _ _ _ c.if-n-lt10.false c.if-n-lt100.true c.requires (first.end, first.written) (last.end, last.written) in
    record { end = r.0; written = r.1 }

pub put_digits-requires : goal.put_digits-requires
unfolding decimal
put_digits-requires c = search rules

pub returns : goal.returns
unfolding decimal
returns c = search rules
