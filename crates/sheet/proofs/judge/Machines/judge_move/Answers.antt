use Rattle.sheet.specs.Kept.Held.{own_move_faults}
use Rattle.sheet.proofs.Judging.{move-long, length-wrong, move-early, move-many, move-placed}
use Rattle.sheet.proofs.Judging.{body-bad, body-guards, body-silent, body-fine}
use Rattle.sheet.proofs.judge.Machines.judge_move.Goals as goal

pub returns-then-wrong_move_length : goal.returns-then-wrong_move_length
unfolding own_move_faults
returns-then-wrong_move_length c m at h = search length-wrong

pub returns-then-self-eq0 : goal.returns-then-self-eq0
returns-then-self-eq0 c m at h = search move-early

pub returns-then-self-ge-MOVES : goal.returns-then-self-ge-MOVES
returns-then-self-ge-MOVES c m at h = search move-many

pub bad_move-requires : goal.bad_move-requires
bad_move-requires c = search move-long

pub returns-then-bad_move : goal.returns-then-bad_move
returns-then-bad_move c m at h = search (move-placed, body-bad)

pub bad_guards-requires : goal.bad_guards-requires
bad_guards-requires c = search move-long

pub returns-then-bad_guards : goal.returns-then-bad_guards
returns-then-bad_guards c m at h = search (move-placed, body-guards)

pub bounds-body-3 : goal.bounds-body-3
bounds-body-3 c = search move-long

pub returns-then-body-eq0 : goal.returns-then-body-eq0
returns-then-body-eq0 c m at h = search (move-placed, body-silent)

pub returns : goal.returns
returns c m at h = search (move-placed, body-fine)
