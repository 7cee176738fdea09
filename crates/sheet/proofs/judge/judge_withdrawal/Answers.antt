use Rattle.common.proofs.Tests.{tests}
use Rattle.common.specs.Reply.{unless}
use Rattle.sheet.specs.Kept.Held.{own_withdraw_faults}
use Rattle.sheet.proofs.judge.judge_withdrawal.Goals as goal

pub returns-then-body-ne3 : goal.returns-then-body-ne3
unfolding unless own_withdraw_faults
returns-then-body-ne3 c at = search tests

pub returns : goal.returns
unfolding unless own_withdraw_faults
returns c at = search tests
