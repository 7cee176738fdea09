-- The number of each kind of record: 1 to 5 in document 01, 16 to 18 in document 02, whose plans end with a 3 too.
use Rattle.std.specs.Prelude.{◌≡◌, ℕ, Result, MatchResult}
use Rattle.sheet.specs.declared.kind.Kind.{Kind}
use Rattle.sheet.specs.declared.kind.UnknownKind.{UnknownKind}
use Rattle.sheet.specs.declared.kind.Kind.TheVariants.{Machine, Move, End, Replacement, Withdrawal, Numbers, Table, Bound}

abbrev pub kind_number : Kind → ℕ
kind_number Machine = 1
kind_number Move = 2
kind_number End = 3
kind_number Replacement = 4
kind_number Withdrawal = 5
kind_number Numbers = 16
kind_number Table = 17
kind_number Bound = 18

-- the kind that has a number, or that no kind has it
abbrev pub NamesKind : ℕ → Result Kind UnknownKind → Type 0
NamesKind number r = MatchResult r (λ kind. kind_number kind ≡ number) (λ u. (kind : Kind) → kind_number kind ≡ number → ⊥)
