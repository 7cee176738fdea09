-- Reading a plan back, whoever wrote it: its shape (15), its grouping and its entries.
use Rattle.std.specs.Prelude.{ℕ, ◌+◌, ◌*◌, List, Bool, true, false, not, ◌&&◌, length, eqb, leb, Option, Some, None}
use Rattle.common.specs.Lists.{up_to, all, any, filter}
use Rattle.sheet.specs.declared.record.Record.{Record}
use Rattle.sheet.specs.Record.{byte, record_at, part}
use Rattle.sheet.specs.Model.{Model, machine_count}
use Rattle.plan.specs.Groups.{Grouping, group_of, group_count, moves_of}
use Rattle.plan.specs.Modes.{size}
use Rattle.plan.specs.Table.{Entry, entry}
use Rattle.plan.specs.Bytes.{table_length, table_at, plan_length}

-- the numbers of the kind 16 record, one for each machine
unfoldable pub groups_in : Model → List ℕ → Grouping
groups_in m plan = part plan 4 (machine_count m)

-- the table of group k, as a part of the plan
unfoldable pub table_of_group : Model → Grouping → List ℕ → ℕ → List ℕ
table_of_group m groups plan k = part plan (table_at m groups k + 4) (table_length m groups k)

-- the entry of a table from present group mode p to wanted group mode q, of a group of n modes
unfoldable pub entry_in : List ℕ → ℕ → ℕ → ℕ → Entry
entry_in table n p q = entry (byte table (2 * (p * n + q))) (byte table (2 * (p * n + q) + 1))

-- the entry of group k
unfoldable pub entry_at : Model → List ℕ → ℕ → ℕ → ℕ → Entry
entry_at m plan k p q =
    let groups = groups_in m plan in
    entry_in (table_of_group m groups plan k) (size m groups k) p q

-- whether an entry is a route: 255 says that there is none
abbrev pub is_route : Entry → Bool
is_route e = not (eqb e.distance 255)

abbrev pub is_whole : Option Record → ℕ → ℕ → Bool
is_whole (Some x) k n = eqb x.kind k && eqb x.len n
is_whole None k n = false

-- a record of kind k with a body of n bytes begins at a place
unfoldable pub has_record : List ℕ → ℕ → ℕ → ℕ → Bool
has_record plan at k n = is_whole (record_at plan at) k n

-- every number below the count is some machine's
unfoldable pub gapless : Grouping → Bool
gapless groups = all (λ k. any (eqb k) groups) (up_to (group_count groups))

-- what a move needs is never in a higher group
unfoldable pub needs_first : Model → Grouping → Bool
needs_first m groups = all (λ v. all (λ g. leb (group_of groups g.machine) (group_of groups v.machine)) v.guards) m.moves

-- the records of a plan with these group numbers, and nothing behind them
unfoldable pub fits_records : Model → Grouping → List ℕ → Bool
fits_records m groups plan =
    all (λ k. has_record plan (table_at m groups k) 17 (table_length m groups k)) (up_to (group_count groups))
    && has_record plan (table_at m groups (group_count groups)) 18 4
    && has_record plan (table_at m groups (group_count groups) + 8) 3 0
    && eqb (length plan) (plan_length m groups)

-- the shape of 15
unfoldable pub well_shaped : Model → List ℕ → Bool
well_shaped m plan =
    let groups = groups_in m plan in
    has_record plan 0 16 (machine_count m)
    && gapless groups
    && needs_first m groups
    && all (λ k. leb (size m groups k) 64) (up_to (group_count groups))
    && fits_records m groups plan

-- the bound that a plan writes
unfoldable pub bound_in : Model → List ℕ → ℕ
bound_in m plan =
    let at = table_at m (groups_in m plan) (group_count (groups_in m plan)) + 4 in
    byte plan at + 256 * byte plan (at + 1) + 65536 * byte plan (at + 2) + 16777216 * byte plan (at + 3)

-- those moves of group k that count as naming other groups, under a plan, by a test of moves
unfoldable pub counted : Model → List ℕ → (ℕ → Bool) → ℕ → List ℕ
counted m plan counts k = filter counts (moves_of m (groups_in m plan) k)

-- the test: every move counts
abbrev pub every_move : ℕ → Bool
every_move v = true
