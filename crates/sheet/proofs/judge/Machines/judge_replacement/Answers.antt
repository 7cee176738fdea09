use Rattle.sheet.specs.Kept.Held.{own_replace_faults}
use Rattle.sheet.proofs.Judging.{move-long, length-wrong, length-right}
use Rattle.sheet.proofs.judge.Machines.judge_replacement.Goals as goal

pub returns-then-wrong_move_length : goal.returns-then-wrong_move_length
unfolding own_replace_faults
returns-then-wrong_move_length c m at h = search length-wrong

pub judge_body-requires : goal.judge_body-requires
judge_body-requires c = search move-long

pub returns : goal.returns
unfolding own_replace_faults
returns c m at h = search (length-right, c.judge_body.ensures)
