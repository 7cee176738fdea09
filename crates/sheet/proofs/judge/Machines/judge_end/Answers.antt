use Rattle.common.proofs.Tests.{tests}
use Rattle.common.specs.Reply.{unless}
use Rattle.sheet.specs.Faults.{end_faults}
use Rattle.sheet.proofs.judge.Machines.judge_end.Goals as goal

pub returns-then-body-ne0 : goal.returns-then-body-ne0
unfolding unless end_faults
returns-then-body-ne0 c = λ m at e. search tests

pub returns-then-self-eq0 : goal.returns-then-self-eq0
unfolding unless end_faults
returns-then-self-eq0 c = λ m at e. search (tests, e)

pub returns : goal.returns
unfolding unless end_faults
returns c = λ m at e. search (tests, e)
