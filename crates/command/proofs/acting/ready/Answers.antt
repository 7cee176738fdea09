use Rattle.command.proofs.ActingLoops.{holding-none, holding-next, holding-fails, holding-end}
use Rattle.command.proofs.acting.ready.Goals as goal

pub loop-guard-init : goal.loop-guard-init
loop-guard-init c = search holding-none

pub returns-then-not-has_mode : goal.returns-then-not-has_mode
returns-then-not-has_mode c = holding-fails c.loop-guard.invariant c.in-Some.ensures.steps c.mode_of.ensures
    c.has_mode.ensures c.if-not-has_mode.true

pub loop-guard-preserved : goal.loop-guard-preserved
loop-guard-preserved c = search (holding-next, c.in-Some.ensures)

pub returns : goal.returns
returns c = holding-end c.loop-guard.invariant c.in-None.ensures.steps
