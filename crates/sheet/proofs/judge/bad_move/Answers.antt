use Rattle.sheet.proofs.BadMoves.{dead-stays, dead-failed, dead-rest}
use Rattle.sheet.proofs.judge.bad_move.Goals as goal

pub returns-then-from-to : goal.returns-then-from-to
returns-then-from-to c = search dead-stays

pub returns-then-has_mode : goal.returns-then-has_mode
returns-then-has_mode c = search dead-rest

pub returns : goal.returns
returns c = search dead-failed
