use Rattle.plan.proofs.EachLoop.{asked-member, asked-next, asked-fails, asked-end}
use Rattle.plan.proofs.each.all_of.Goals as goal

pub test-requires : goal.test-requires
test-requires g c = c.requires c.in-Some.i (asked-member c.loop-i.invariant c.in-Some.ensures.steps)

pub returns-then-not-test : goal.returns-then-not-test
returns-then-not-test g c = asked-fails c.loop-i.invariant c.in-Some.ensures.steps c.test.ensures c.if-not-test.true

pub loop-i-preserved : goal.loop-i-preserved
loop-i-preserved g c = asked-next c.loop-i.invariant c.in-Some.ensures.steps c.test.ensures c.if-not-test.false

pub returns : goal.returns
returns g c = asked-end c.loop-i.invariant c.in-None.ensures.steps.0
