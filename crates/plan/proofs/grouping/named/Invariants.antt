use Rattle.sheet.proofs.GuardLoop.{GuardsUpto}
use Rattle.plan.proofs.PutLoop.{Puts}
use Rattle.plan.proofs.grouping.named.Given as goal

abbrev pub invariant-loop-guard : goal.invariant-loop-guard
invariant-loop-guard l = GuardsUpto (Puts (λ i. i) l.r) l.body l.guard-iterator
