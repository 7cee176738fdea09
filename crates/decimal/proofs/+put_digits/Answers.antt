use Rattle.decimal.proofs.Putting.{put-none, put_last, put-more, room-last, room-more, room-then}
use borrow.Author.Rules.{rules}
use Rattle.decimal.proofs.+put_digits.Goals as goal

pub returns-then-most-eq0 : goal.returns-then-most-eq0
returns-then-most-eq0 t c = let r = put-none _ _ _ _ c.if-most-eq0.true in record { end = r.0; written = r.1 }

pub put_digit-requires : goal.put_digit-requires
put_digit-requires t c = search room-last

pub returns-then-n-lt10 : goal.returns-then-n-lt10
returns-then-n-lt10 t c =
    let digit = c.put_digit.ensures in
    let r = put_last _ _ _ _ c.if-most-eq0.false c.if-n-lt10.true (digit.end, digit.written) in
    record { end = r.0; written = r.1 }

pub put_digits-end-requires : goal.put_digits-end-requires
put_digits-end-requires t c = (search rules, search room-more)

pub put_digit-requires-2 : goal.put_digit-requires-2
put_digit-requires-2 t c = search room-then

pub returns : goal.returns
returns t c =
    let front = c.put_digits-end.ensures in
    let last = c.put_digit-2.ensures in
    let r = put-more _ _ _ _ c.if-most-eq0.false c.if-n-lt10.false c.requires (front.end, front.written) (last.end, last.written) in
    record { end = r.0; written = r.1 }
