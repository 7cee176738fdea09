use mathlib.Core.Path.{refl}
use Rattle.sheet.proofs.BadGuards.{guards_none, guards_more, guards-some, guards-all}
use Rattle.sheet.proofs.judge.bad_guards.Goals as goal

pub loop-n-init : goal.loop-n-init
loop-n-init c = guards_none _ _

pub returns-then-bad_guard : goal.returns-then-bad_guard
returns-then-bad_guard c = guards-some _ _ c.loop-n-test.true refl c.bad_guard.ensures c.if-bad_guard.true

pub loop-n-preserved : goal.loop-n-preserved
loop-n-preserved c = guards_more _ _ _ c.loop-n.invariant c.bad_guard.ensures c.if-bad_guard.false

pub returns : goal.returns
returns c = guards-all _ _ c.loop-n.invariant c.loop-n.auto.n-end c.loop-n-test.false refl
