use Rattle.sheet.proofs.Slots.{body-key, seek-taken}
use Rattle.sheet.proofs.sent.Keys.repeats.Goals as goal

pub bounds-self-find : goal.bounds-self-find
bounds-self-find c = (c.find.ensures _ c.requires.0.1).inside

pub returns : goal.returns
returns c keys h = seek-taken (body-key _ _ c.pair_of-pair.ensures c.type_inv.body)
    (c.find.ensures _ h)
