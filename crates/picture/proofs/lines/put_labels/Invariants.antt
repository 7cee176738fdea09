use Rattle.picture.proofs.SetRows.{LabelsBegun}
use Rattle.picture.proofs.lines.put_labels.Given as goal

abbrev pub invariant-loop-i : goal.invariant-loop-i
invariant-loop-i l = LabelsBegun l.initial.out l.at l.machines l.before l.i-iterator.rest l.end l.out
