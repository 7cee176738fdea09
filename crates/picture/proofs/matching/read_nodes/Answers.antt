use mathlib.Core.Path.{refl}
use borrow.Author.Rules.{rules}
use Rattle.picture.proofs.NodeLoop.{nodes-none, nodes-end}
use Rattle.picture.proofs.NodeLoop.{node-stops, node-again, node-next}
use Rattle.picture.proofs.matching.read_nodes.Goals as goal

pub loop-seen-init : goal.loop-seen-init
loop-seen-init c = (refl, search nodes-none)

pub returns-in_err-label : goal.returns-in_err-label
returns-in_err-label c =
    rw c.from_residual.ensures (node-stops _ c.loop-seen.invariant.1 c.opens_node.ensures c.loop-seen-test.true c.in_err-label.ensures)

pub returns-then-meet-ne0 : goal.returns-then-meet-ne0
returns-then-meet-ne0 c = search (node-again, c.in_ok-label.ensures)

pub loop-seen-preserved : goal.loop-seen-preserved
loop-seen-preserved c = (search rules, search (node-next, c.in_ok-label.ensures))

pub returns : goal.returns
returns c = search nodes-end
