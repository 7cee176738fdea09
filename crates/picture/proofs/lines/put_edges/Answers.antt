use mathlib.Core.Path.{◌≡◌}
use Rattle.picture.proofs.SetRows.{edges-start, edges_room, edges_more, edges-end}
use Rattle.picture.proofs.lines.put_edges.Goals as goal

pub loop-k-init : goal.loop-k-init
loop-k-init c = let e : c.into_iter-k-iterator.result.rest ≡ c.args.targets = search in rw e (search edges-start)

pub put_edge-end-requires : goal.put_edge-end-requires
put_edge-end-requires c = search (edges_room, c.in-Some.ensures)

pub loop-k-preserved : goal.loop-k-preserved
loop-k-preserved c = search (edges_more, c.in-Some.ensures)

pub returns : goal.returns
returns c = let r = edges-end _ _ _ _ c.loop-k.invariant c.in-None.ensures.steps.0 in record { end = r.0; written = r.1 }
