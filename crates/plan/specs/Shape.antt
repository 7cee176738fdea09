-- "Shape in 15", stated: which bytes are a plan in shape for a sheet, whoever wrote them, and what is read in them.
use Rattle.std.specs.Prelude.{ℕ, ◌+◌, ◌*◌, ◌≤◌, ◌<◌, ◌≡◌, ◌↔◌, true, length, get_or}
use mathlib.Core.List.{List, [], ◌++◌, flat_map, Memᴰ}
use Rattle.sheet.specs.Record.{byte, record_of}
use Rattle.sheet.specs.Model.{Guard, Model, machine_count, move_count, move_at}
use Rattle.sheet.specs.Valid.{Valid}
use Rattle.plan.specs.Groups.{Grouping, group_of, group_count}
use Rattle.plan.specs.Modes.{size}
use Rattle.plan.specs.Reading.{groups_in, entry_at, bound_in, well_shaped}

-- The records of a plan one after the other and nothing else, with lengths that fit the group numbers.
pub record Shaped (m : Model) (plan : List ℕ) : Type 0 where
  pub groups : Grouping
  pub tables : List (List ℕ)
  pub bound : List ℕ
  pub records : plan ≡ record_of 16 groups ++ (flat_map (record_of 17) tables ++ (record_of 18 bound ++ record_of 3 []))
  -- a number for each machine, without gaps from 0, and a table for each number
  pub numbers-all : length groups ≡ machine_count m
  pub numbered : (i : ℕ) → i < machine_count m → group_of groups i < length tables
  pub gapless : (k : ℕ) → k < length tables → (i : ℕ) × (i < machine_count m) × (group_of groups i ≡ k)
  -- no need above its move's group
  pub needs-first : (v : ℕ) (g : Guard) → v < move_count m → Memᴰ g (move_at m v).guards
      → group_of groups g.machine ≤ group_of groups (move_at m v).machine
  -- at most 64 modes in a group; two bytes for each present and each wanted one
  pub small : (k : ℕ) → k < length tables → size m groups k ≤ 64
  pub table-length : (k : ℕ) → k < length tables → length (get_or tables k []) ≡ 2 * (size m groups k * size m groups k)
  pub bound-length : length bound ≡ 4

-- what is read in a plan in shape stands in its records
pub record Reads (m : Model) (plan : List ℕ) (s : Shaped m plan) : Type 0 where
  pub groups : groups_in m plan ≡ s.groups
  pub count : group_count (groups_in m plan) ≡ length s.tables
  pub distance : (k p q : ℕ) → k < length s.tables → p < size m s.groups k → q < size m s.groups k
      → (entry_at m plan k p q).distance ≡ byte (get_or s.tables k []) (2 * (p * size m s.groups k + q))
  pub move : (k p q : ℕ) → k < length s.tables → p < size m s.groups k → q < size m s.groups k
      → (entry_at m plan k p q).move ≡ byte (get_or s.tables k []) (2 * (p * size m s.groups k + q) + 1)
  pub bound : bound_in m plan
      ≡ byte s.bound 0 + 256 * (byte s.bound 1 + 256 * (byte s.bound 2 + 256 * byte s.bound 3))

-- A plan of bytes passes the test of its shape exactly if it has it.
pub record ShapeRight (m : Model) (plan : List ℕ) : Type 0 where
  pub exactly : (well_shaped m plan ≡ true) ↔ Shaped m plan
  pub reads : (s : Shaped m plan) → Reads m plan s

abbrev pub ShapesRight : Type 0
ShapesRight = (m : Model) (plan : List ℕ) → Valid m → ((i : ℕ) → byte plan i < 256) → ShapeRight m plan
