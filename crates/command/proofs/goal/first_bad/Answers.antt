use Rattle.command.proofs.GoalTest.{good-next, good-end, bad-empty, bad-beyond}
use Rattle.command.proofs.goal.first_bad.Goals as goal
use Rattle.command.proofs.goal.first_bad.Goals.{then-mask-eq0-via-then-mask-eq0}
use Rattle.command.proofs.goal.first_bad.Goals.{then-mask-eq0-via-else-mask-eq0+then-has_beyond}

pub returns-then-mask-eq0 : goal.returns-then-mask-eq0
returns-then-mask-eq0 c =
    elim c.then-mask-eq0.branch [
      | then-mask-eq0-via-then-mask-eq0 w ↦ search bad-empty
      | then-mask-eq0-via-else-mask-eq0+then-has_beyond w ↦ search bad-beyond
    ]

pub loop-i-preserved : goal.loop-i-preserved
loop-i-preserved c = search good-next

pub returns : goal.returns
returns c = search good-end
