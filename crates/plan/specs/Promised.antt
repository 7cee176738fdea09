-- Demand 2 and the replies of planning, stated of the computed definitions.
use Rattle.std.specs.Prelude.{ℕ, ◌*◌, ◌≤◌, ◌<◌, ◌≡◌, ◌↔◌, List, map, true, length}
use Rattle.common.specs.Lists.{up_to, sum}
use Rattle.common.specs.Reply.{given, refused}
use Rattle.sheet.specs.Record.{byte}
use Rattle.sheet.specs.Model.{Model, move_count}
use Rattle.sheet.specs.Valid.{Valid}
use Rattle.sheet.specs.Parse.{Parsed, parse}
use Rattle.plan.specs.Groups.{Grouping, group_of, group_count, groups_of, moves_of}
use Rattle.plan.specs.Modes.{size}
use Rattle.plan.specs.Usable.{usable, joined_by}
use Rattle.plan.specs.Routes.{routes_upto}
use Rattle.plan.specs.Bound.{bound_of, plan_bound}
use Rattle.plan.specs.Bytes.{table_at, plan_length, bytes_with}
use Rattle.plan.specs.Planning.{length_reply, plan_reply, own_plan, buffer_after, scratch_after}
use Rattle.plan.specs.Reading.{groups_in, entry_at, bound_in}
use Rattle.plan.specs.Meaning.{GroupsRight, Live, Route, Usable, ShortestRoute, EntryRight, BoundRight, ModesRight}
use Rattle.plan.specs.Shape.{Shaped}
use Rattle.plan.specs.Shown.{UsableUnder}

-- What is computed as usable is what is usable.
abbrev pub UsableRight : Model → Grouping → Type 0
UsableRight m groups =
    (v : ℕ) → v < move_count m → (usable m groups (joined_by (routes_upto m groups (group_count groups))) v ≡ true) ↔ Usable m groups v

-- the place of 9: the smallest machine of the lowest-numbered group of more than 64 modes
pub record FirstLarge (m : Model) (groups : Grouping) (place : ℕ) : Type 0 where
  pub group : ℕ
  pub present : group < group_count groups
  pub large : 64 < size m groups group
  pub lower : (k : ℕ) → k < group → size m groups k ≤ 64
  pub machine : place < length groups
  pub member : group_of groups place ≡ group
  pub smallest : (i : ℕ) → group_of groups i ≡ group → place ≤ i

-- no group of more than 64 modes; the squares of the mode counts, summed
abbrev pub SmallGroups : Model → Grouping → Type 0
SmallGroups m groups = (k : ℕ) → k < group_count groups → size m groups k ≤ 64

abbrev pub squares : Model → Grouping → ℕ
squares m groups = sum (map (λ k. size m groups k * size m groups k) (up_to (group_count groups)))

abbrev pub own_bound : Model → ℕ
own_bound m = plan_bound m (groups_of m) (routes_upto m (groups_of m) (group_count (groups_of m)))

-- The bound of every sheet that passes 1 to 8 and 21, accepted or not, is the sum of the costs.
abbrev pub BoundsRight : Type 0
BoundsRight = (m : Model) → Valid m → BoundRight m (groups_of m) (own_bound m)

-- Before, every move of a group counted as naming other groups: the bound, and the plan with that bound.
abbrev pub bound_by_all : Model → ℕ
bound_by_all m = bound_of m (groups_of m) (moves_of m (groups_of m)) (routes_upto m (groups_of m) (group_count (groups_of m)))

abbrev pub plan_by_all : Model → List ℕ
plan_by_all m = bytes_with m (groups_of m) (bound_by_all m) (routes_upto m (groups_of m) (group_count (groups_of m)))

-- The bound is never larger than that; but for it, plans are as they were; and what was accepted is accepted.
pub record StillPlanned (sheet : List ℕ) (m : Model) : Type 0 where
  pub never-larger : own_bound m ≤ bound_by_all m
  pub as_long : length (own_plan m) ≡ length (plan_by_all m)
  pub tables-kept : (i : ℕ) → i < table_at m (groups_of m) (group_count (groups_of m)) → byte (own_plan m) i ≡ byte (plan_by_all m) i
  pub accepted : (buffer scratch : ℕ) → SmallGroups m (groups_of m) → squares m (groups_of m) ≤ 16384 → bound_by_all m ≤ 65535
      → buffer ≡ plan_length m (groups_of m) → 512 ≤ scratch → plan_reply sheet buffer scratch ≡ given (own_plan m)

abbrev pub PlannedStill : Type 0
PlannedStill = (sheet : List ℕ) (d : Parsed) → parse sheet ≡ given d → StillPlanned sheet d.model

-- Under the plan that planning wrote, usable by its entries is usable.
abbrev pub OwnUsable : Type 0
OwnUsable =
    (sheet plan : List ℕ) (buffer scratch : ℕ) (d : Parsed) → parse sheet ≡ given d → plan_reply sheet buffer scratch ≡ given plan
    → (v : ℕ) → v < move_count d.model → UsableUnder d.model plan v ↔ Usable d.model (groups_of d.model) v

-- 9 to 12 are tested in this order, and the first that applies refuses; the length is refused for 9 and 10 alone.
pub record RepliesRight (sheet : List ℕ) (m : Model) (buffer scratch : ℕ) : Type 0 where
  pub nine : (k : ℕ) → k < group_count (groups_of m) → 64 < size m (groups_of m) k
      → (place : ℕ) × FirstLarge m (groups_of m) place × (plan_reply sheet buffer scratch ≡ refused 9 place)
      × (length_reply sheet ≡ refused 9 place)
  pub ten : SmallGroups m (groups_of m) → 16384 < squares m (groups_of m)
      → (plan_reply sheet buffer scratch ≡ refused 10 0) × (length_reply sheet ≡ refused 10 0)
  pub eleven : SmallGroups m (groups_of m) → squares m (groups_of m) ≤ 16384 → 65535 < own_bound m
      → plan_reply sheet buffer scratch ≡ refused 11 0
  pub twelve : SmallGroups m (groups_of m) → squares m (groups_of m) ≤ 16384 → own_bound m ≤ 65535
      → (buffer ≡ plan_length m (groups_of m) → 512 ≤ scratch → ⊥) → plan_reply sheet buffer scratch ≡ refused 12 0
  pub accepted : SmallGroups m (groups_of m) → squares m (groups_of m) ≤ 16384 → own_bound m ≤ 65535
      → buffer ≡ plan_length m (groups_of m) → 512 ≤ scratch → plan_reply sheet buffer scratch ≡ given (own_plan m)
  pub reported : SmallGroups m (groups_of m) → squares m (groups_of m) ≤ 16384
      → length_reply sheet ≡ given (plan_length m (groups_of m))
  pub as-reported : (plan : List ℕ) → plan_reply sheet buffer scratch ≡ given plan → length_reply sheet ≡ given (length plan)

abbrev pub Replied : Type 0
Replied = (sheet : List ℕ) (d : Parsed) (buffer scratch : ℕ) → parse sheet ≡ given d → RepliesRight sheet d.model buffer scratch

-- A sheet that is refused is refused alike by planning and by the plan's length.
abbrev pub SheetFirst : Type 0
SheetFirst =
    (sheet : List ℕ) (n p : ℕ) → parse sheet ≡ refused n p
    → (length_reply sheet ≡ refused n p) × ((buffer scratch : ℕ) → plan_reply sheet buffer scratch ≡ refused n p)

-- The scratch: from 512 bytes up its length changes no reply; below 512 no plan is given.
pub record ScratchRight (sheet : List ℕ) (buffer : ℕ) : Type 0 where
  pub long-enough : (scratch other : ℕ) → 512 ≤ scratch → 512 ≤ other
      → plan_reply sheet buffer scratch ≡ plan_reply sheet buffer other
  pub too_short : (scratch other : ℕ) (plan : List ℕ) → scratch < 512 → plan_reply sheet buffer other ≡ given plan
      → plan_reply sheet buffer scratch ≡ refused 12 0

-- What planning leaves in the bytes it was lent: the plan and zeros, or all as it was.
pub record LeftRight (sheet buffer scratch : List ℕ) : Type 0 where
  pub plan-written : (plan : List ℕ) → plan_reply sheet (length buffer) (length scratch) ≡ given plan
      → buffer_after (plan_reply sheet (length buffer) (length scratch)) buffer ≡ plan
  pub same_length : length (scratch_after (plan_reply sheet (length buffer) (length scratch)) scratch) ≡ length scratch
  pub all-zero : (plan : List ℕ) → plan_reply sheet (length buffer) (length scratch) ≡ given plan
      → (i : ℕ) → byte (scratch_after (plan_reply sheet (length buffer) (length scratch)) scratch) i ≡ 0
  pub buffer-kept : (n p : ℕ) → plan_reply sheet (length buffer) (length scratch) ≡ refused n p
      → buffer_after (plan_reply sheet (length buffer) (length scratch)) buffer ≡ buffer
  pub scratch-kept : (n p : ℕ) → plan_reply sheet (length buffer) (length scratch) ≡ refused n p
      → scratch_after (plan_reply sheet (length buffer) (length scratch)) scratch ≡ scratch

-- Demand 2 for a sheet that planning accepts and the plan that it wrote.
pub record PlanRight (m : Model) (plan : List ℕ) : Type 0 where
  pub shaped : Shaped m plan
  pub bytes : (i : ℕ) → byte plan i < 256
  pub exact-length : length plan ≡ plan_length m (groups_of m)
  pub own-groups : groups_in m plan ≡ groups_of m
  pub groups : GroupsRight m (groups_of m)
  pub modes : (k : ℕ) → ModesRight m (groups_of m) k
  pub entries : (k p q : ℕ) → k < group_count (groups_of m) → p < size m (groups_of m) k → q < size m (groups_of m) k
      → EntryRight m (groups_of m) k p q (entry_at m plan k p q)
  -- no group has more than 64 modes, so no shortest chain has more than 63 moves: 254 and 255 are free
  pub small : SmallGroups m (groups_of m)
  pub few-moves : (k d p q : ℕ) → k < group_count (groups_of m) → q < size m (groups_of m) k
      → ShortestRoute m (groups_of m) k d p q → d < 64
  -- no chain leaves the live modes
  pub stays-live : (k d p q : ℕ) → Route m (groups_of m) k d p q → Live m (groups_of m) k p → Live m (groups_of m) k q
  pub bound : BoundRight m (groups_of m) (bound_in m plan)
  pub bounded : bound_in m plan ≤ 65535

-- Demand 2, whole.
abbrev pub Planned : Type 0
Planned =
    (sheet plan : List ℕ) (buffer scratch : ℕ) (d : Parsed) → parse sheet ≡ given d
    → plan_reply sheet buffer scratch ≡ given plan → PlanRight d.model plan
