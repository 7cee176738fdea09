use Rattle.joining.proofs.WithoutLoop.{without-found, without-missing}
use Rattle.joining.proofs.joining.first_without.Goals as goal

pub returns-then-masks-i-eq0-clause-first : goal.returns-then-masks-i-eq0-clause-first
returns-then-masks-i-eq0-clause-first c = without-found c.loop-i.invariant c.loop-i-test.true c.if-masks-i-eq0.true

pub returns-clause-first : goal.returns-clause-first
returns-clause-first c = without-missing c.loop-i.invariant c.loop-i-test.false
