-- "The sheet" as it is written: machines, moves, amendments and the end; the clean sheet of a model, which has no amendments.
use Rattle.std.specs.Prelude.{ℕ, get_or}
use mathlib.Core.List.{List, [], ◌∷◌, ◌++◌, flat_map}
use Rattle.common.specs.Lists.{up_to}
use Rattle.sheet.specs.Record.{record_of}
use Rattle.sheet.specs.Model.{Guard, Move, Model, machine_count, move_count, mode_count, move_at}
use Rattle.sheet.specs.Amend.{Amendment, replace, withdraw}

-- mode count, live byte
unfoldable pub machine_body : Model → ℕ → List ℕ
machine_body m i = mode_count m i ∷ get_or m.live i 0 ∷ []

-- a need: its machine, its byte of allowed modes
abbrev pub guard_bytes : Guard → List ℕ
guard_bytes g = g.machine ∷ g.mask ∷ []

-- machine, from mode, to mode, command, then the needs
unfoldable pub move_body : Move → List ℕ
move_body v = v.machine ∷ v.from ∷ v.to ∷ v.command ∷ flat_map guard_bytes v.guards

-- kind 1 for each machine in order, and kind 2 for each move
abbrev pub machine_records : Model → List ℕ
machine_records m = flat_map (λ i. record_of 1 (machine_body m i)) (up_to (machine_count m))

abbrev pub move_records : Model → List ℕ
move_records m = flat_map (λ v. record_of 2 (move_body (move_at m v))) (up_to (move_count m))

-- kinds 4 and 5
abbrev pub amendment_record : Amendment → List ℕ
amendment_record (replace v) = record_of 4 (move_body v)
amendment_record (withdraw machine from command) = record_of 5 (machine ∷ from ∷ command ∷ [])

-- the machines and moves of a model, amendments, then kind 3
unfoldable pub amended_bytes : Model → List Amendment → List ℕ
amended_bytes m changes = machine_records m ++ move_records m ++ flat_map amendment_record changes ++ record_of 3 []

-- the clean sheet
unfoldable pub sheet_bytes : Model → List ℕ
sheet_bytes m = machine_records m ++ move_records m ++ record_of 3 []
