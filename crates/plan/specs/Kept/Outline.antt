-- Judging a plan's shape: what the code keeps of a plan for a sheet.
use Rattle.std.specs.Prelude.{ℕ, ◌+◌, ◌*◌, ◌≤◌, ◌<◌, ◌≡◌, List, map, Bool, true, ◌&&◌, length, get_or, eqb}
use Rattle.common.specs.Lists.{up_to, all, any, sum}
use Rattle.common.specs.Bits.{bit}
use Rattle.sets.specs.Kept.Sets.{lowered}
use Rattle.sheet.specs.Record.{word}
use Rattle.sheet.specs.Model.{Model, machine_count}
use Rattle.plan.specs.declared.partition.Groups.{Groups}
use Rattle.plan.specs.Reading.{groups_in, has_record, gapless}
use Rattle.plan.specs.Kept.Partition.{Partitioned}

-- s holds the numbers below 64 that occur
pub record Used (numbers : List ℕ) (s : ℕ) : Type 0 where
  pub bits : (k : ℕ) → k < 64 → bit s k ≡ any (eqb k) numbers

-- no group names one above it, by the sets of the other groups that each names
unfoldable pub lower_named : List ℕ → ℕ → Bool
lower_named named count = all (λ k. eqb (lowered (get_or named k 0) k) 0) (up_to count)

-- the bytes of the table of a group of n modes
unfoldable pub table_bytes : ℕ → ℕ
table_bytes n = 2 * (n * n)

-- where the record of group k begins, by the sizes of the groups, behind the numbers of n machines
unfoldable pub start_at : List ℕ → ℕ → ℕ → ℕ
start_at sizes n k = 4 + n + sum (map (λ a. 4 + table_bytes (get_or sizes a 0)) (up_to k))

-- where the records of the groups begin, and the record behind them
pub record StartsAt (sizes : List ℕ) (n count : ℕ) (starts : List ℕ) : Type 0 where
  pub each : (k : ℕ) → k ≤ count → get_or starts k 0 ≡ start_at sizes n k

-- a table's record at each of these places
unfoldable pub tables_fit : List ℕ → List ℕ → List ℕ → ℕ → Bool
tables_fit plan sizes starts count =
    all (λ k. has_record plan (get_or starts k 0) 17 (table_bytes (get_or sizes k 0))) (up_to count)

-- the bound and the end at a place, and nothing behind them
unfoldable pub ends_at : List ℕ → ℕ → Bool
ends_at plan at = has_record plan at 18 4 && has_record plan (at + 8) 3 0 && eqb (length plan) (at + 12)

-- the bound in the record at a place
unfoldable pub bound_at : List ℕ → ℕ → ℕ
bound_at plan at = word plan (at + 4) + 65536 * word plan (at + 6)

-- a plan begins with the numbers of the groups of the machines of m, and they have no gaps
pub record NumbersFit (m : Model) (plan : List ℕ) : Type 0 where
  pub shown : has_record plan 0 16 (machine_count m) ≡ true
  pub no_gap : gapless (groups_in m plan) ≡ true

-- what is kept of a plan for the sheet of m: the groups that it numbers, and where their records should begin
pub record Outlined (m : Model) (plan : List ℕ) (g : Groups) (starts : List ℕ) : Type 0 where
  pub groups : Partitioned m (groups_in m plan) g
  pub places : StartsAt g.sizes (machine_count m) g.count starts
