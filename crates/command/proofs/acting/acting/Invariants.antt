use Rattle.sheet.specs.Model.{Model}
use Rattle.sheet.specs.Kept.Indexed.{Listed}
use Rattle.command.proofs.ActingLoops.{Unanswered}
use Rattle.command.proofs.acting.acting.Given as goal

abbrev pub invariant-loop-v : goal.invariant-loop-v
invariant-loop-v l = (d : Model) → Listed d l.moves.file.now l.moves.places.now → Unanswered d l.state l.m.0 l.command l.v
