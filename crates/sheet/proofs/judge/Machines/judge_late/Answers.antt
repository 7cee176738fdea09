use Rattle.sheet.specs.Kept.Held.{own_move_faults}
use Rattle.sheet.proofs.Judging.{move-long, length-wrong, move-early, move-many, move-placed}
use Rattle.sheet.proofs.judge.Machines.judge_late.Goals as goal

pub returns-then-wrong_move_length : goal.returns-then-wrong_move_length
unfolding own_move_faults
returns-then-wrong_move_length c m at h = search length-wrong

pub returns-then-self-eq0 : goal.returns-then-self-eq0
returns-then-self-eq0 c m at h = search move-early

pub returns-then-self-ge-MOVES : goal.returns-then-self-ge-MOVES
returns-then-self-ge-MOVES c m at h = search move-many

pub judge_body-requires : goal.judge_body-requires
judge_body-requires c = search move-long

pub returns : goal.returns
returns c m at h = search (move-placed, c.judge_body.ensures)
