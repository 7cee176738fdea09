use native.Mathlib.Omega.{arith}
use Rattle.common.proofs.Output.{not-fitted}
use Rattle.sheet.proofs.Pieces.{fitted-written}
use Rattle.picture.proofs.Fitting.{text-length, text-put}
use Rattle.picture.proofs.graph.write_rows.Goals as goal

pub returns-then-out-length : goal.returns-then-out-length
returns-then-out-length c = let nodes = c.rows_length.ensures.length in
    let edges = c.rows_length-2.ensures.length in
    let long = text-length c.args.members.now c.args.targets.now in let r = not-fitted _ _ (omega (arith, c.if-out-length.true, nodes, edges, long)) in record { reply = rw c.at.ensures r.0; written = r.1 }

pub returns : goal.returns
returns c = let nodes = c.rows_length.ensures.length in
    let edges = c.rows_length-2.ensures.length in
    let long = text-length c.args.members.now c.args.targets.now in let r = fitted-written _ _ (omega (arith, nodes, edges, long)) (omega (arith, c.if-out-length.false, nodes, edges, long))
    (text-put _ _ _ (c.put-first.ensures.end, c.put-first.ensures.written) (c.put_rows-nodes.ensures.end, c.put_rows-nodes.ensures.written) (c.put_rows-edges.ensures.end, c.put_rows-edges.ensures.written)
    (c.put.ensures.end, c.put.ensures.written)) in record { reply = r.0; written = r.1 }
