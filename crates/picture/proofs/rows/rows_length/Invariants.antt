use Rattle.picture.proofs.RowLoops.{RowsCounted}
use Rattle.picture.proofs.rows.rows_length.Given as goal

abbrev pub invariant-loop-a : goal.invariant-loop-a
invariant-loop-a g l = RowsCounted g.R.GroupRow.row l.sets l.r l.a
