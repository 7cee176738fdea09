use Rattle.command.proofs.StateTest.{pairs_next, pairs_end, bad-mode, bad-tag}
use Rattle.command.proofs.state.first_bad.Goals as goal
use Rattle.command.proofs.state.first_bad.Goals.{then-modes-i-via-else-modes-i+then-tag_at-ge2}
use Rattle.command.proofs.state.first_bad.Goals.{then-modes-i-via-then-modes-i}

pub returns-then-modes-i : goal.returns-then-modes-i
returns-then-modes-i c =
    elim c.then-modes-i.branch [
      | then-modes-i-via-then-modes-i w ↦ search bad-mode
      | then-modes-i-via-else-modes-i+then-tag_at-ge2 w ↦ search bad-tag
    ]

pub loop-i-preserved : goal.loop-i-preserved
loop-i-preserved c = search pairs_next

pub returns : goal.returns
returns c = search pairs_end
