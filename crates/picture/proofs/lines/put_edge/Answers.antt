use native.Mathlib.Omega.{arith}
use Rattle.picture.proofs.Pieces.{name-length, edge-length, edge-put}
use Rattle.picture.proofs.lines.put_edge.Goals as goal

pub put_name-name-requires : goal.put_name-name-requires
put_name-name-requires c = omega (
  arith,
  c.requires,
  name-length c.args.a,
  edge-length c.args.a c.args.k,
)

pub put-arrow-requires : goal.put-arrow-requires
put-arrow-requires c = omega (
  arith,
  c.put_name-name.ensures.end,
  c.put_name-name.auto.out,
  c.requires,
  name-length c.args.a,
  edge-length c.args.a c.args.k,
)

pub put_number-end-requires : goal.put_number-end-requires
put_number-end-requires c = omega (
  arith,
  c.put_name-name.ensures.end,
  c.put_name-name.auto.out,
  c.put-arrow.ensures.end,
  c.put-arrow.auto.out,
  c.requires,
  name-length c.args.a,
  edge-length c.args.a c.args.k,
)

pub put-requires : goal.put-requires
put-requires c = omega (
  arith,
  c.put_name-name.ensures.end,
  c.put_name-name.auto.out,
  c.put-arrow.ensures.end,
  c.put-arrow.auto.out,
  c.put_number-end.ensures.end,
  c.put_number-end.auto.out,
  c.requires,
  name-length c.args.a,
  edge-length c.args.a c.args.k,
)

pub returns : goal.returns
returns c = let r = edge-put c.args.out.now _ (omega (arith, c.requires)) _ _ (c.put_name-name.ensures.end, c.put_name-name.ensures.written)
    (c.put-arrow.ensures.end, c.put-arrow.ensures.written) (c.put_number-end.ensures.end, c.put_number-end.ensures.written) (c.put.ensures.end, c.put.ensures.written) in record { end = r.0; written = r.1 }
