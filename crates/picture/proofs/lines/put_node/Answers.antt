use native.Mathlib.Omega.{arith}
use Rattle.sets.specs.Kept.Sets.{elements}
use Rattle.picture.proofs.Pieces.{name-length, node-length, node-put}
use Rattle.picture.proofs.lines.put_node.Goals as goal

pub put_name-name-requires : goal.put_name-name-requires
put_name-name-requires c = omega (
  arith,
  c.requires,
  name-length c.args.k,
  node-length c.args.k (elements c.args.machines),
)

pub put-label-requires : goal.put-label-requires
put-label-requires c = omega (
  arith,
  c.put_name-name.ensures.end,
  c.put_name-name.auto.out,
  c.requires,
  name-length c.args.k,
  node-length c.args.k (elements c.args.machines),
)

pub put_labels-end-requires : goal.put_labels-end-requires
put_labels-end-requires c = omega (
  arith,
  c.put_name-name.ensures.end,
  c.put_name-name.auto.out,
  c.put-label.ensures.end,
  c.put-label.auto.out,
  c.requires,
  name-length c.args.k,
  node-length c.args.k (elements c.args.machines),
)

pub put-requires : goal.put-requires
put-requires c = omega (
  arith,
  c.put_name-name.ensures.end,
  c.put_name-name.auto.out,
  c.put-label.ensures.end,
  c.put-label.auto.out,
  c.put_labels-end.ensures.end,
  c.put_labels-end.auto.out,
  c.requires,
  name-length c.args.k,
  node-length c.args.k (elements c.args.machines),
)

pub returns : goal.returns
returns c = let r = node-put c.args.out.now _ (omega (arith, c.requires)) _ _ (c.put_name-name.ensures.end, c.put_name-name.ensures.written)
    (c.put-label.ensures.end, c.put-label.ensures.written) (c.put_labels-end.ensures.end, c.put_labels-end.ensures.written) (c.put.ensures.end, c.put.ensures.written) in record { end = r.0; written = r.1 }
