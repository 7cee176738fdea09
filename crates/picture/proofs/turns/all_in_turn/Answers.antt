use borrow.Author.Rules.{rules}
use Rattle.picture.proofs.ReadySets.{number_fits, turns-all}
use Rattle.picture.proofs.TurnLoop.{sets-none, groups-inside, sets-next, sets-fail}
use Rattle.picture.proofs.turns.all_in_turn.Goals as goal

pub members-machines-requires : goal.members-machines-requires
members-machines-requires c = (search rules, search number_fits)

pub loop-k-init : goal.loop-k-init
loop-k-init c = search sets-none

pub machines_of-requires : goal.machines_of-requires
machines_of-requires c = search (groups-inside, rules)

pub returns-then-not-in_turn : goal.returns-then-not-in_turn
returns-then-not-in_turn c = search sets-fail

pub loop-k-preserved : goal.loop-k-preserved
loop-k-preserved c = search sets-next

pub returns : goal.returns
returns c = search turns-all
