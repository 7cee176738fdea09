use Rattle.sheet.proofs.Standing.{no-machine, no_mode, free-none, withdrawn-none, owner-stands}
use Rattle.sheet.proofs.amending.standing.Goals as goal

pub returns-then-from-ge-MACHINES : goal.returns-then-from-ge-MACHINES
returns-then-from-ge-MACHINES c vs v h n = search no-machine

pub returns-then-from-ge-MODES : goal.returns-then-from-ge-MODES
returns-then-from-ge-MODES c vs v h n = search no_mode

pub bounds-keys-at : goal.bounds-keys-at
bounds-keys-at c = (c.find-at.ensures _ c.requires.0.1.table).inside

pub returns-then-keys-at-eq0 : goal.returns-then-keys-at-eq0
returns-then-keys-at-eq0 c vs v h n = search (free-none, c.pair_of.ensures, c.find-at.ensures)

pub returns-then-places-v-eq0 : goal.returns-then-places-v-eq0
returns-then-places-v-eq0 c vs v h n = search (withdrawn-none, c.pair_of.ensures, c.find-at.ensures)

pub returns : goal.returns
returns c vs v h n = search (owner-stands, c.pair_of.ensures, c.find-at.ensures)
