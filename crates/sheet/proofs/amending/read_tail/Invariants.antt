use Prim.Native.Nat.{◌-◌}
use Rattle.sheet.specs.Kept.Held.{counts_of}
use Rattle.sheet.specs.Kept.Scanned.{Amending}
use Rattle.sheet.proofs.amending.read_tail.Given as goal

abbrev pub invariant-loop-kind : goal.invariant-loop-kind
invariant-loop-kind l =
    let sheet = l.machines.sheet in
    Amending l.s (counts_of sheet) sheet.modes sheet.live l.machines.tops
    l.keys.pairs l.keys.commands l.keys.owners l.places l.amended l.at

abbrev pub decreases-loop-kind : goal.decreases-loop-kind
decreases-loop-kind l =
    64 - l.amended
