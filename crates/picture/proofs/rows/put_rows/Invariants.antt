use Rattle.picture.proofs.RowLoops.{RowsUpto}
use Rattle.picture.proofs.rows.put_rows.Given as goal

abbrev pub invariant-loop-a : goal.invariant-loop-a
invariant-loop-a g l = RowsUpto g.R.GroupRow.row l.sets l.initial.out l.at l.end l.a l.out
