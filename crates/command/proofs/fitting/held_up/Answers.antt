use native.Mathlib.Omega.{arith}
use Rattle.command.proofs.HeldLoop.{held_none, held-there, held-group, held_next, held-end}
use Rattle.command.proofs.Placing.{placed-inside}
use Rattle.command.proofs.fitting.held_up.Goals as goal

pub loop-guard-init : goal.loop-guard-init
loop-guard-init c = search held_none

pub group_at-k-requires : goal.group_at-k-requires
group_at-k-requires c = let p = c.requires in
    held-there c.loop-guard.invariant c.in-Some.ensures.steps p.2 p.3

pub mode_at-requires : goal.mode_at-requires
mode_at-requires c = let p = c.requires in
    let there = held-there c.loop-guard.invariant c.in-Some.ensures.steps p.2 p.3 in
    omega (arith, placed-inside p.2 _ there)

pub put_if-r-requires : goal.put_if-r-requires
put_if-r-requires c = search held-group

pub loop-guard-preserved : goal.loop-guard-preserved
loop-guard-preserved c = held_next c.loop-guard.invariant c.in-Some.ensures.steps c.group_at-k.ensures c.from.ensures
    c.mode_at.ensures c.has_mode.ensures c.put_if-r.ensures

pub returns : goal.returns
returns c = search (held-end, c.in-None.ensures)
