use native.Mathlib.Omega.{arith}
use Rattle.sheet.proofs.Slots.{body-key, added-not, added_new}
use Rattle.sheet.proofs.sent.Keys.add.Goals as goal

pub bounds-self-at : goal.bounds-self-at
bounds-self-at c = (c.find-at.ensures _ c.requires.0.1).inside

pub returns-then-self-at-ne0 : goal.returns-then-self-at-ne0
returns-then-self-at-ne0 c keys h last given = added-not (body-key _ _ c.pair_of-pair.ensures c.type_inv.body)
    (c.find-at.ensures _ h) _ _ _ c.if-self-at-ne0.true

pub bounds-self-at-2 : goal.bounds-self-at-2
bounds-self-at-2 c = (c.find-at.ensures _ c.requires.0.1).inside

pub bounds-self-at-3 : goal.bounds-self-at-3
bounds-self-at-3 c = (c.find-at.ensures _ c.requires.0.1).inside

pub bounds-self-at-4 : goal.bounds-self-at-4
bounds-self-at-4 c = (c.find-at.ensures _ c.requires.0.1).inside

pub returns : goal.returns
returns c keys h last given = added_new _ _ (body-key _ _ c.pair_of-pair.ensures c.type_inv.body) h
    (c.find-at.ensures _ h) c.if-self-at-ne0.false given last (omega arith)
