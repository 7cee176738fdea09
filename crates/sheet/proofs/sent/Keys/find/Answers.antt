use Rattle.sheet.proofs.Slots.{seek-first, seek-inside}
use Rattle.sheet.proofs.Slots.{seek-less, seek-next, seek_found, seek-free}
use Rattle.sheet.proofs.sent.Keys.find.Goals as goal

pub loop-at-init : goal.loop-at-init
loop-at-init c = search seek-first

pub bounds-self-at : goal.bounds-self-at
bounds-self-at c = search seek-inside

pub returns-then-holds : goal.returns-then-holds
returns-then-holds c keys h = search seek_found

pub loop-at-smaller : goal.loop-at-smaller
loop-at-smaller c = search seek-less

pub loop-at-preserved : goal.loop-at-preserved
loop-at-preserved c = search seek-next

pub returns : goal.returns
returns c keys h = search seek-free
