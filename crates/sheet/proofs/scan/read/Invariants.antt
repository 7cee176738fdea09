use Prim.Native.Nat.{◌+◌, ◌-◌}
use Rattle.sheet.specs.Kept.Held.{counts_of}
use Rattle.sheet.specs.Kept.Scanned.{Scanned}
use Rattle.sheet.proofs.scan.read.Given as goal

abbrev pub invariant-loop-kind : goal.invariant-loop-kind
invariant-loop-kind l =
    let sheet = l.machines.sheet in
    Scanned l.s (counts_of sheet) sheet.modes sheet.live l.machines.tops
    l.keys.pairs l.keys.commands l.keys.owners sheet.places l.at

abbrev pub decreases-loop-kind : goal.decreases-loop-kind
decreases-loop-kind l =
    347 - (l.machines.sheet.machines + l.machines.sheet.moves)
