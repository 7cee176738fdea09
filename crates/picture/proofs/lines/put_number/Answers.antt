use native.Mathlib.Omega.{arith}
use Rattle.decimal.proofs.Putting.{put_byte}
use Rattle.picture.proofs.Pieces.{number_put}
use Rattle.picture.proofs.lines.put_number.Goals as goal

pub returns : goal.returns
returns c = let r = number_put c.args.out.now _ (omega (arith, c.requires)) _ _
    (put_byte c.args.out.now _ _ (omega (arith, c.requires))) (c.put.ensures.end, c.put.ensures.written) in record { end = r.0; written = r.1 }
