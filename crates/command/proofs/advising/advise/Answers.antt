use mathlib.Core.Path.{sym}
use native.Mathlib.Omega.{arith}
use borrow.Author.Rules.{rules}
use Rattle.plan.proofs.SheetNumbers.{places-lent}
use Rattle.command.proofs.LeftUnmet.{none_left}
use Rattle.command.proofs.Opening.{opened-lent, opened-below, opened-weighed, opened-sized}
use Rattle.command.proofs.Opening.{opened-lent-few, opened-count, opened-members, opened-lives}
use Rattle.command.proofs.Opening.{sizes-long}
use Rattle.command.proofs.Opening.{opened-placed, opened-goal}
use Rattle.command.proofs.Placing.{placed-known}
use Rattle.command.proofs.advising.advise.Goals as goal
use Rattle.command.proofs.advising.advise.Goals.{Start}

pub slice_bounds-numbers-end-2 : goal.slice_bounds-numbers-end-2
slice_bounds-numbers-end-2 c = opened-lent c.requires.0.2

pub slice_bounds-question-end : goal.slice_bounds-question-end
slice_bounds-question-end c = places-lent c.requires.0.2.indexes

pub unmet-left-requires : goal.unmet-left-requires
unmet-left-requires c = let p = c.requires in
    ((p.0.0, _, opened-placed p.0.2 _ p.0.3), p.1)

pub returns-then-left-eq0 : goal.returns-then-left-eq0
returns-then-left-eq0 c m wish o passes allows = let p = opened-placed o _ passes in
    none_left p (c.unmet-left.ensures m _ wish p allows) c.if-left-eq0.true

pub members-machines-requires : goal.members-machines-requires
members-machines-requires c = (search opened-lent-few, search opened-below)

pub zeros-zeros-requires : goal.zeros-zeros-requires
zeros-zeros-requires c = search (opened-weighed, opened-sized)

pub put_lives-requires : goal.put_lives-requires
put_lives-requires c = let p = c.requires.0 in (
  (
    p.0,
    _,
    opened-lives p.2 c.zeros-zeros.ensures (opened-members p.2 c.members-machines.ensures),
  ),
  opened-count p.2,
  omega (arith, c.zeros-zeros.type_inv),
  sym (sizes-long p.2),
  omega (arith, c.members-machines.type_inv),
)

pub present-now-requires : goal.present-now-requires
present-now-requires c = let p = c.requires.0 in
    (p.0, opened-weighed p.2, p.3, opened-below p.2)

pub invariant_of-question : goal.invariant_of-question
invariant_of-question c = let p = c.requires.0 in record {
  whole = omega (arith, c.gathered-facts.type_inv);
  few = placed-known (opened-placed p.2 _ p.3);
}

pub pursue-requires : goal.pursue-requires
pursue-requires c = let p = c.requires in (
  (
    p.0.0,
    p.0.1,
    opened-goal p.0.2 _ p.0.3 c.present-now.result _ c.members-machines.result c.zeros-zeros.ensures
        c.members-machines.ensures c.put_lives.ensures (omega (arith, c.put_lives.auto.held, c.zeros-zeros.type_inv))
        c.present-now.ensures c.gathered-facts.ensures (omega (arith, c.gathered-facts.type_inv))
        p.0.4 c.unmet-left.ensures,
  ),
  omega (arith, c.if-left-eq0.false),
  search rules,
  omega (arith, c.members-machines.type_inv),
  p.1,
)

pub returns : goal.returns
returns c m wish o passes allows = c.pursue.ensures m wish
    (opened-goal o _ passes c.present-now.result _ c.members-machines.result c.zeros-zeros.ensures
    c.members-machines.ensures c.put_lives.ensures (omega (arith, c.put_lives.auto.held, c.zeros-zeros.type_inv))
    c.present-now.ensures c.gathered-facts.ensures (omega (arith, c.gathered-facts.type_inv))
    allows c.unmet-left.ensures)
