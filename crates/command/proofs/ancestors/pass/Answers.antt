use Rattle.command.proofs.Marks.{pass-marks, pass-leaves}
use Rattle.command.proofs.ancestors.pass.Goals as goal

pub loop-j-preserved-then-has : goal.loop-j-preserved-then-has
loop-j-preserved-then-has c = search pass-marks

pub loop-j-preserved : goal.loop-j-preserved
loop-j-preserved c = search pass-leaves
