use Rattle.sheet.proofs.GuardLoop.{GuardsUpto}
use Rattle.command.proofs.ActingLoops.{Holding}
use Rattle.command.proofs.acting.ready.Given as goal

abbrev pub invariant-loop-guard : goal.invariant-loop-guard
invariant-loop-guard l = GuardsUpto (Holding l.state) l.body l.guard-iterator
