use Rattle.common.proofs.Tests.{tests}
use Rattle.sheet.specs.Faults.{bad_machine}
use Rattle.sheet.proofs.judge.bad_machine.Goals as goal

pub returns-then-modes-eq0 : goal.returns-then-modes-eq0
unfolding bad_machine
returns-then-modes-eq0 c = search tests

pub returns-then-modes-gt-MODES : goal.returns-then-modes-gt-MODES
unfolding bad_machine
returns-then-modes-gt-MODES c = search tests

pub returns-then-live-eq0 : goal.returns-then-live-eq0
unfolding bad_machine
returns-then-live-eq0 c = search tests

pub returns : goal.returns
unfolding bad_machine
returns c = search (tests, ← c.has_beyond.ensures)
