use Rattle.sheet.specs.Model.{Model}
use Rattle.sheet.specs.Valid.{Valid}
use Rattle.sheet.specs.Kept.Indexed.{Listed}
use Rattle.plan.proofs.NeedSets.{NeedsRead}
use Rattle.plan.proofs.grouping.needed.Given as goal

abbrev pub invariant-loop-v : goal.invariant-loop-v
invariant-loop-v l = (m : Model) → Listed m l.moves.file.now l.moves.places.now → Valid m → NeedsRead m l.v l.next
