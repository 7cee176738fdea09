use borrow.Author.Rules.{rules}
use Rattle.picture.proofs.EdgeLoop.{row-start, row_ends, row_inside, row-stops, row_other}
use Rattle.picture.proofs.EdgeLoop.{row_next}
use Rattle.picture.proofs.matching.read_row.Goals as goal

pub loop-at-init : goal.loop-at-init
loop-at-init c = search row-start

pub number_above-requires : goal.number_above-requires
number_above-requires c = (search row_inside, search rules)

pub returns-in_err-k : goal.returns-in_err-k
returns-in_err-k c = rw c.from_residual.ensures (row-stops _ _ _ _ c.loop-at.invariant c.opens_edge.ensures c.loop-at-test.true
    c.width-head.ensures.length c.requires.2 c.in_err-k.ensures)

pub returns-then-not-stands : goal.returns-then-not-stands
returns-then-not-stands c = search (row_other, c.in_ok-k.ensures)

pub loop-at-preserved : goal.loop-at-preserved
loop-at-preserved c = search (row_next, c.in_ok-k.ensures)

pub returns : goal.returns
returns c = search row_ends
