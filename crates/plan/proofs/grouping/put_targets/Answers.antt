use Prim.Native.Nat.{◌<◌}
use mathlib.Core.Path.{◌≡◌, ◌∙◌}
use lib.ListN.{get_or}
use Rattle.plan.proofs.TargetLoops.{targets-none, target_fits, targets_next}
use Rattle.plan.proofs.grouping.put_targets.Goals as goal
use Rattle.plan.proofs.grouping.put_targets.Goals.{After-from-k}

-- the group of the turn's machine
number : (c : After-from-k) → c.from-k.result ≡ get_or c.args.numbers.now c.loop-i.i 0
number c = c.from-k.ensures ∙ c.group_of-group.ensures

fits : (c : After-from-k) → c.from-k.result < 32
fits c = target_fits _ _ _ c.requires.0 c.loop-i-test.true (number c)

pub loop-i-init : goal.loop-i-init
loop-i-init c = search targets-none

pub loop-i-preserved : goal.loop-i-preserved
loop-i-preserved c = let put = c.put_into in
    targets_next _ _ _ c.loop-i.invariant c.loop-i-test.true (fits (goal.at.loop-i-preserved c).After-from-k) (number (goal.at.loop-i-preserved c).After-from-k)
    put.auto.into (rw (← c.from-k.ensures) at put.ensures) c.without.ensures
