-- The laws of a plan that arrival rests on, and no others: any plan that has them earns demand 3.
use Rattle.std.specs.Prelude.{ℕ, suc, ◌+◌, ◌*◌, ◌≤◌, ◌<◌, ◌≡◌, Bool, true}
use mathlib.Core.List.{List, map, Memᴰ}
use Rattle.common.specs.Lists.{up_to, sum}
use Rattle.common.specs.Reply.{given}
use Rattle.sheet.specs.Model.{Model, move_count, move_at}
use Rattle.sheet.specs.Parse.{Parsed, parse}
use Rattle.plan.specs.Groups.{Grouping, group_count, groups_of, moves_of, named_outside}
use Rattle.plan.specs.Modes.{size, live_mode}
use Rattle.plan.specs.Usable.{leads, end_mode}
use Rattle.plan.specs.Meaning.{Usable}
use Rattle.plan.specs.Planning.{plan_reply}
use Rattle.plan.specs.Reading.{groups_in, entry_at, bound_in, well_shaped, counted}
use Rattle.plan.specs.Shown.{usable_in}

-- a distance of the plan that is a route
abbrev pub IsDistance : Model → List ℕ → ℕ → ℕ → ℕ → ℕ → Type 0
IsDistance m plan k p q d = ((entry_at m plan k p q).distance ≡ d) × (d < 255)

-- the plan shows a route
abbrev pub Connects : Model → List ℕ → ℕ → ℕ → ℕ → Type 0
Connects m plan k p q = (entry_at m plan k p q).distance < 255

module _ (m : Model) (plan : List ℕ) where
  abbrev groups : Grouping
  groups = groups_in m plan

  -- The tables; `counts` tells the moves that count as naming other groups, `IsUsable` those that are usable, `longest` gives L of
  -- each group.
  pub record TableLaws (counts : ℕ → Bool) (IsUsable : ℕ → Type 0) (longest : ℕ → ℕ) : Type 0 where
    pub shaped : well_shaped m plan ≡ true
    -- a usable move counts
    pub usable-counts : (v : ℕ) → v < move_count m → IsUsable v → counts v ≡ true
    -- entries are bytes
    pub byte-entries : (k p q : ℕ) → k < group_count groups → p < size m groups k → q < size m groups k
        → (entry_at m plan k p q).distance ≤ 255
    -- the distance is 0 exactly from a mode to itself
    pub zero-self : (k p : ℕ) → k < group_count groups → p < size m groups k → (entry_at m plan k p p).distance ≡ 0
    pub self-zero : (k p q : ℕ) → k < group_count groups → p < size m groups k → q < size m groups k
        → (entry_at m plan k p q).distance ≡ 0 → p ≡ q
    -- at distance d + 1 the first move is usable, leads from p, and leaves at most d
    pub first-move : (k p q d : ℕ) → k < group_count groups → p < size m groups k → q < size m groups k
        → IsDistance m plan k p q (suc d)
        → Memᴰ (entry_at m plan k p q).move (moves_of m groups k) × IsUsable (entry_at m plan k p q).move
        × (leads m groups k (move_at m (entry_at m plan k p q).move) p ≡ true)
        × ((entry_at m plan k (end_mode m groups k (move_at m (entry_at m plan k p q).move) p) q).distance ≤ d)
    -- no route is longer than L
    pub at-most-longest : (k p q : ℕ) → k < group_count groups → p < size m groups k → q < size m groups k → Connects m plan k p q
        → (entry_at m plan k p q).distance ≤ longest k

  -- The routes: a usable move makes one; they compose; one from a live mode ends in a live mode.
  pub record RouteLaws (IsUsable : ℕ → Type 0) : Type 0 where
    pub move-connects : (k p v : ℕ) → k < group_count groups → p < size m groups k → Memᴰ v (moves_of m groups k) → IsUsable v
        → leads m groups k (move_at m v) p ≡ true → Connects m plan k p (end_mode m groups k (move_at m v) p)
    pub connects-compose : (k p q r : ℕ) → k < group_count groups → p < size m groups k → q < size m groups k → r < size m groups k
        → Connects m plan k p q → Connects m plan k q r → Connects m plan k p r
    pub connects-live : (k p q : ℕ) → k < group_count groups → p < size m groups k → q < size m groups k → Connects m plan k p q
        → live_mode m groups k p ≡ true → live_mode m groups k q ≡ true

  -- The costs, and the bound that the plan writes; `counting` gives the moves that count as naming other groups.
  pub record CostLaws (counting : ℕ → List ℕ) (longest cost : ℕ → ℕ) : Type 0 where
    pub cost-is : (k : ℕ) → k < group_count groups
        → cost k ≡ longest k * (1 + sum (map cost (named_outside m groups k (counting k))))
    pub bound-is : bound_in m plan ≡ sum (map cost (up_to (group_count groups)))

  -- all of them
  pub record PlanLaws (counts : ℕ → Bool) (IsUsable : ℕ → Type 0) (longest cost : ℕ → ℕ) : Type 0 where
    pub tables : TableLaws counts IsUsable longest
    pub routes : RouteLaws IsUsable
    pub costs : CostLaws (counted m plan counts) longest cost

-- The plan that planning writes has them.
abbrev pub Lawful : Type 0
Lawful =
    (sheet plan : List ℕ) (buffer scratch : ℕ) (d : Parsed) → parse sheet ≡ given d → plan_reply sheet buffer scratch ≡ given plan
    → (longest : ℕ → ℕ) × (cost : ℕ → ℕ)
    × PlanLaws d.model plan (usable_in d.model plan) (Usable d.model (groups_of d.model)) longest cost
