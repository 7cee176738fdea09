use Rattle.picture.proofs.EdgeTable.{edges_none, edges-end, edges-stop, edges-next}
use Rattle.picture.proofs.matching.read_edges.Goals as goal

pub loop-a-init : goal.loop-a-init
loop-a-init c = search edges_none

pub returns-in_err-row : goal.returns-in_err-row
returns-in_err-row c =
    rw c.from_residual.ensures (edges-stop _ _ _ c.loop-a.invariant c.loop-a-test.true c.requires.1 c.in_err-row.ensures)

pub loop-a-preserved : goal.loop-a-preserved
loop-a-preserved c = search (edges-next, c.in_ok-row.ensures)

pub returns : goal.returns
returns c = search edges-end
