use native.Mathlib.Omega.{arith}
use Rattle.decimal.proofs.Putting.{put_byte}
use Rattle.common.proofs.Output.{not-fitted}
use Rattle.sheet.proofs.Pieces.{fitted-written}
use Rattle.picture.proofs.Fitting.{bytes-length, bytes-put}
use Rattle.picture.proofs.graph.write_bytes.Goals as goal

pub returns-then-out-length : goal.returns-then-out-length
returns-then-out-length c = let counted = c.rows_length.ensures.length in let r = not-fitted _ _ (omega (arith, c.if-out-length.true, counted, bytes-length c.requires)) in record { reply = rw c.at.ensures r.0; written = r.1 }

pub returns : goal.returns
returns c = let fits = c.if-out-length.false in
    let counted = c.rows_length.ensures.length in
    let long = bytes-length c.requires in let r = fitted-written _ _ (omega (arith, counted, long)) (omega (arith, fits, counted, long))
    (bytes-put c.requires _ (put_byte c.args.out.now _ _ (omega (arith, fits))) (c.put-at.ensures.end, c.put-at.ensures.written)
    (c.put_rows.ensures.end, c.put_rows.ensures.written)) in record { reply = r.0; written = r.1 }
