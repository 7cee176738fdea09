use Prim.Native.Nat.{◌<◌}
use Rattle.plan.specs.Reading.{groups_in}
use Rattle.plan.proofs.WithinModes.{group-machines}
use Rattle.command.proofs.AllowedGroups.{allows-masks, sets-place, sets-size, sets-next, sets_end}
use Rattle.command.proofs.goal.allowed_sets.Goals as goal
use Rattle.command.proofs.goal.allowed_sets.Goals.{In-Some}

place : (c : In-Some) → c.in-Some.k < 32
place c =
    let (m, plan, state, starts, wish, kept, allows, only, sets) = c.requires.0 in
    let t = c.in-Some.ensures.steps in
    sets-place (c.loop-k.invariant plan state starts) t.some t.first kept only

pub size_of-n-requires : goal.size_of-n-requires
size_of-n-requires c = place (goal.at.size_of-n-requires c).In-Some

pub bounds-members-k : goal.bounds-members-k
bounds-members-k c = rw c.requires.2 (place (goal.at.bounds-members-k c).In-Some)

pub within-requires : goal.within-requires
within-requires c =
    let (m, plan, state, starts, wish, kept, allows, only, sets) = c.requires.0 in
    let t = c.in-Some.ensures.steps in
    let u = c.loop-k.invariant plan state starts in (
      m,
      groups_in m plan,
      c.in-Some.k,
      rw c.weights.ensures kept.held,
      allows-masks allows kept.held.weighed.valid c.requires.1,
      group-machines sets (sets-place u t.some t.first kept only),
      sets-size u t.some t.first kept only c.size_of-n.ensures.0,
    )

pub bounds-r-k : goal.bounds-r-k
bounds-r-k c = place (goal.at.bounds-r-k c).In-Some

pub loop-k-preserved : goal.loop-k-preserved
loop-k-preserved c plan state starts = let u = c.loop-k.invariant plan state starts in search (sets-next, u, c.in-Some.ensures)

pub returns : goal.returns
returns c m plan state starts = let u = c.loop-k.invariant plan state starts in search (sets_end, u, c.in-None.ensures)
