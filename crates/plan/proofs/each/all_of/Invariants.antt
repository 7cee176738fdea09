use Rattle.plan.proofs.EachLoop.{AskedUpto}
use Rattle.plan.proofs.each.all_of.Given as goal

abbrev pub invariant-loop-i : goal.invariant-loop-i
invariant-loop-i g l = AskedUpto (goal.F-post g l.test) l.set l.i-iterator.rest
