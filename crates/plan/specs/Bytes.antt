-- "The plan": its records and its length.
use Rattle.std.specs.Prelude.{ℕ, ◌+◌, ◌*◌, ◌/◌, ◌%◌, get_or}
use mathlib.Core.List.{List, [], ◌++◌, map, flat_map}
use Rattle.common.specs.Lists.{up_to, sum}
use Rattle.common.specs.Graph.{Matrix}
use Rattle.sheet.specs.Record.{two_bytes, record_of}
use Rattle.sheet.specs.Model.{Model, machine_count}
use Rattle.plan.specs.Groups.{Grouping, group_count}
use Rattle.plan.specs.Modes.{size}
use Rattle.plan.specs.Routes.{usable_moves}
use Rattle.plan.specs.Table.{table_of}
use Rattle.plan.specs.Usable.{joined_by}
use Rattle.plan.specs.Bound.{plan_bound}

-- four bytes, little-endian
unfoldable pub four_bytes : ℕ → List ℕ
four_bytes n = two_bytes (n % 65536) ++ two_bytes (n / 65536)

module _ (m : Model) (groups : Grouping) where
  -- the bytes of group k's table, given every group's distances
  unfoldable pub table_in : List Matrix → ℕ → List ℕ
  table_in routes k = table_of m groups k (usable_moves m groups (joined_by routes) k) (get_or routes k [])

  -- group numbers (16), a table for each group (17), a bound (18), the end (3)
  unfoldable pub bytes_with : ℕ → List Matrix → List ℕ
  bytes_with bound routes =
      record_of 16 groups
      ++ flat_map (λ k. record_of 17 (table_in routes k)) (up_to (group_count groups))
      ++ record_of 18 (four_bytes bound)
      ++ record_of 3 []

  -- with the bound that planning writes
  abbrev pub bytes_of : List Matrix → List ℕ
  bytes_of routes = bytes_with (plan_bound m groups routes) routes

  -- the length of a group's table
  unfoldable pub table_length : ℕ → ℕ
  table_length k = 2 * (size m groups k * size m groups k)

  -- where the record of group k begins, and for the number of groups the record behind the last
  unfoldable pub table_at : ℕ → ℕ
  table_at k = 4 + machine_count m + sum (map (λ a. 4 + table_length a) (up_to k))

  unfoldable pub plan_length : ℕ
  plan_length = table_at (group_count groups) + 12
