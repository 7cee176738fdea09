-- A goal that is not covered: which group refuses it, with which number of the table and at which place.
use Rattle.std.specs.Prelude.{ℕ, ◌≤◌, ◌<◌, ◌≡◌, ◌⊎◌, List, Bool, true, false}
use Rattle.common.specs.Reply.{Reply, given, refused}
use Rattle.sheet.specs.Record.{byte}
use Rattle.sheet.specs.Model.{Model, machine_count}
use Rattle.sheet.specs.Parse.{Parsed, parse}
use Rattle.plan.specs.Groups.{group_of, group_count}
use Rattle.plan.specs.Modes.{size}
use Rattle.plan.specs.Laws.{Connects}
use Rattle.plan.specs.Reading.{well_shaped}
use Rattle.plan.specs.Shown.{usable_in}
use Rattle.command.specs.Goal.{Masks, goal_masks, met}
use Rattle.command.specs.Ancestors.{upstream_in}
use Rattle.command.specs.Attainable.{groups, present, live_group}
use Rattle.command.specs.TurnedDown.{StateFits, GoalFits}
use Rattle.command.specs.Covered.{Attains, Safe, Admitted}
use Rattle.command.specs.Next.{next_reply}

-- the smallest machine of a group
pub record Smallest (m : Model) (plan : List ℕ) (group place : ℕ) : Type 0 where
  pub present : place < machine_count m
  pub member : group_of (groups m plan) place ≡ group
  pub least : (i : ℕ) → i < machine_count m → group_of (groups m plan) i ≡ group → place ≤ i

-- By a test of the moves that count
module _ (m : Model) (plan : List ℕ) (counts : ℕ → Bool) (state : List ℕ) (masks : Masks) where
  abbrev count : ℕ
  count = group_count (groups m plan)

  -- group a is k or upstream of it
  abbrev pub Concerns : ℕ → ℕ → Type 0
  Concerns k a = (a ≡ k) ⊎ (upstream_in m plan counts k a ≡ true)

  -- not 16 of group k
  abbrev pub AllLive : ℕ → Type 0
  AllLive k = (a : ℕ) → a < count → Concerns k a → live_group m plan state a ≡ true

  -- of k and the groups upstream, the highest-numbered that is not live, and its smallest machine
  pub record NotLive (k place : ℕ) : Type 0 where
    pub group : ℕ
    pub below : group < count
    pub concerned : Concerns k group
    pub not_live : live_group m plan state group ≡ false
    pub higher-live : (b : ℕ) → group < b → b < count → Concerns k b → live_group m plan state b ≡ true
    pub place_is : Smallest m plan group place

  -- of the groups upstream of k, the highest-numbered that may be stranded, and its smallest machine
  pub record DeadEnd (k place : ℕ) : Type 0 where
    pub group : ℕ
    pub below : group < count
    pub is-upstream : upstream_in m plan counts k group ≡ true
    pub mode : ℕ
    pub within : mode < size m (groups m plan) group
    pub comes-there : Connects m plan group (present m plan state group) mode
    pub stranded : Attains m plan masks group mode → ⊥
    pub higher-none : (b : ℕ) → group < b → b < count → upstream_in m plan counts k b ≡ true → Safe m plan masks b (present m plan state b)
    pub place_is : Smallest m plan group place

  -- group k refuses with number n at place p: by the first of 16, 17, 18 that applies to it
  pub data Because (k n p : ℕ) : Type 0 where
    by-16 : n ≡ 16 → NotLive k p → Because k n p
    by-17 : n ≡ 17 → AllLive k → (Attains m plan masks k (present m plan state k) → ⊥) → Smallest m plan k p → Because k n p
    by-18 : n ≡ 18 → AllLive k → Attains m plan masks k (present m plan state k) → DeadEnd k p → Because k n p

  -- none of the three applies to group k
  pub record Passes (k : ℕ) : Type 0 where
    pub live : AllLive k
    pub attains : Attains m plan masks k (present m plan state k)
    pub no-dead-end : (a : ℕ) → a < count → upstream_in m plan counts k a ≡ true → Safe m plan masks a (present m plan state a)

  -- number n and place p are those of the highest-numbered unmet group that has a cause
  pub record Uncovered (n p : ℕ) : Type 0 where
    pub group : ℕ
    pub below : group < count
    pub unmet : met (groups m plan) masks state group ≡ false
    pub higher-pass : (b : ℕ) → group < b → b < count → met (groups m plan) masks state b ≡ false → Passes b
    pub because : Because group n p

  -- there is one such number and place, and the reply is that refusal
  pub record RefusedSo {A : Type 0} (reply : Reply A) : Type 0 where
    pub number : ℕ
    pub place : ℕ
    pub uncovered : Uncovered number place
    pub alone : (n p : ℕ) → Uncovered n p → (n ≡ number) × (p ≡ place)
    pub refuses : reply ≡ refused number place

-- With a sheet that passes, a plan in shape, and a state and goal that pass 13 and 14: a goal that is not covered is refused so.
abbrev pub UncoveredRefused : Type 0
UncoveredRefused =
    (sheet plan state goal : List ℕ) (d : Parsed) → parse sheet ≡ given d → well_shaped d.model plan ≡ true
    → ((i : ℕ) → byte plan i < 256) → StateFits d.model state → GoalFits d.model goal
    → (Admitted d.model plan state goal → ⊥)
    → RefusedSo d.model plan (usable_in d.model plan) state (goal_masks d.model goal) (next_reply sheet plan state goal)
