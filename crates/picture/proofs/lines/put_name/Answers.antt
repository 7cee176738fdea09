use native.Mathlib.Omega.{arith}
use Rattle.picture.proofs.Pieces.{name-length, name-put}
use Rattle.picture.proofs.lines.put_name.Goals as goal

pub put-end-requires : goal.put-end-requires
put-end-requires c = omega (arith, c.requires, name-length c.args.k)

pub put_number-requires : goal.put_number-requires
put_number-requires c = omega (arith, c.put-end.ensures.end, c.put-end.auto.out, c.requires, name-length c.args.k)

pub returns : goal.returns
returns c = let r = name-put c.args.out.now _ (omega (arith, c.requires)) _ (c.put-end.ensures.end, c.put-end.ensures.written)
    (c.put_number.ensures.end, c.put_number.ensures.written) in record { end = r.0; written = r.1 }
