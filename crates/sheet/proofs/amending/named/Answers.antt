use mathlib.Core.Path.{ap}
use Rattle.sheet.specs.Kept.Kinds.{kind_number}
use Rattle.sheet.proofs.Standing.{named-replaced, named-withdrawn}
use Rattle.sheet.proofs.Numbered.{kinds-differ}
use Rattle.sheet.proofs.amending.named.Goals as goal
use Rattle.sheet.proofs.amending.named.Goals.{in-Replacement, in_default}

pub returns : goal.returns
returns c =
    elim c.match-kind.branch [
      | in-Replacement w ↦ rw w.command-is (named-replaced _ (ap kind_number w.in-Replacement.is))
      | in_default w ↦ rw w.command-is (named-withdrawn _ (kinds-differ w.in_default.not-Replacement))
    ]
