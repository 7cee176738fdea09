use Rattle.common.proofs.Tests.{tests}
use Rattle.sheet.specs.Faults.{wrong_move_length}
use Rattle.sheet.proofs.judge.wrong_move_length.Goals as goal

pub returns-then-n-lt-HEAD : goal.returns-then-n-lt-HEAD
unfolding wrong_move_length
returns-then-n-lt-HEAD c = search tests

pub returns-then-n-gt-LONGEST : goal.returns-then-n-gt-LONGEST
unfolding wrong_move_length
returns-then-n-gt-LONGEST c = search tests

pub returns : goal.returns
unfolding wrong_move_length
returns c = search tests
