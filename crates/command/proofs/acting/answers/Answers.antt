use Rattle.command.proofs.ActingLoops.{other-machine, other-mode, other-command, needs-left}
use Rattle.command.proofs.acting.answers.Goals as goal
use Rattle.command.proofs.acting.answers.Goals.{then-body-m-via-else-body-m+else-body-mode+then-body-command}
use Rattle.command.proofs.acting.answers.Goals.{then-body-m-via-else-body-m+then-body-mode}
use Rattle.command.proofs.acting.answers.Goals.{then-body-m-via-then-body-m}

pub returns-then-body-m : goal.returns-then-body-m
returns-then-body-m c =
    elim c.then-body-m.branch [
      | then-body-m-via-then-body-m w ↦ other-machine _ _ _ _ _ w.if-body-m.true
      | then-body-m-via-else-body-m+then-body-mode w ↦ other-mode _ _ _ _ _ w.if-body-mode.true
      | then-body-m-via-else-body-m+else-body-mode+then-body-command w ↦ other-command _ _ _ _ _ w.if-body-command.true
    ]

pub returns : goal.returns
returns c = needs-left _ _ _ _ _ c.if-body-m.false c.if-body-mode.false c.if-body-command.false
    c.ready.ensures
