use Rattle.sheet.proofs.Judging.{machine-length, machine-late, machine-many, machine-bad, machine-fine}
use Rattle.sheet.proofs.judge.Machines.judge_machine.Goals as goal

pub returns-then-body-ne2 : goal.returns-then-body-ne2
returns-then-body-ne2 c m at n = search machine-length

pub returns-then-self-gt0 : goal.returns-then-self-gt0
returns-then-self-gt0 c m at n = search machine-late

pub returns-then-self-ge-MACHINES : goal.returns-then-self-ge-MACHINES
returns-then-self-ge-MACHINES c m at n = search machine-many

pub returns-then-bad_machine : goal.returns-then-bad_machine
returns-then-bad_machine c m at n = search machine-bad

pub returns : goal.returns
returns c m at n = search machine-fine
