use Prim.Native.Nat.{◌+◌, ◌*◌}
use Rattle.sheet.proofs.Slots.{Seeking, slots_left}
use Rattle.sheet.proofs.sent.Keys.find.Given as goal

abbrev pub invariant-loop-at : goal.invariant-loop-at
invariant-loop-at l = Seeking l.self.pairs l.self.commands (256 * l.pair + l.command) l.at

abbrev pub decreases-loop-at : goal.decreases-loop-at
decreases-loop-at l = slots_left (256 * l.pair + l.command) l.at
