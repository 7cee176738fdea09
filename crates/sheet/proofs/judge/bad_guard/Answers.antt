use Rattle.sheet.proofs.BadGuards.{wrong-guard-own, wrong-guard-falls, wrong-guard-empty, wrong-guard-rest}
use Rattle.sheet.proofs.judge.bad_guard.Goals as goal

pub returns-then-machine-body : goal.returns-then-machine-body
returns-then-machine-body c = search wrong-guard-own

pub returns-then-not_rising : goal.returns-then-not_rising
returns-then-not_rising c = search wrong-guard-falls

pub returns-then-mask-eq0 : goal.returns-then-mask-eq0
returns-then-mask-eq0 c = search wrong-guard-empty

pub returns : goal.returns
returns c = search wrong-guard-rest
