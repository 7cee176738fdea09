use Rattle.sheet.proofs.GuardLoop.{GuardsUpto}
use Rattle.command.proofs.HeldLoop.{Fails}
use Rattle.command.proofs.fitting.held_up.Given as goal

abbrev pub invariant-loop-guard : goal.invariant-loop-guard
invariant-loop-guard l = GuardsUpto (Fails l.state l.numbers l.r) l.body l.guard-iterator
