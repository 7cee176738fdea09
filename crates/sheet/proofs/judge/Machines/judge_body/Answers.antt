use Rattle.sheet.proofs.Judging.{body-bad, body-guards, body-silent, body-fine}
use Rattle.sheet.proofs.judge.Machines.judge_body.Goals as goal

pub returns-then-bad_move : goal.returns-then-bad_move
returns-then-bad_move c m at h = search body-bad

pub returns-then-bad_guards : goal.returns-then-bad_guards
returns-then-bad_guards c m at h = search body-guards

pub returns-then-body-eq0 : goal.returns-then-body-eq0
returns-then-body-eq0 c m at h = search body-silent

pub returns : goal.returns
returns c m at h = search body-fine
