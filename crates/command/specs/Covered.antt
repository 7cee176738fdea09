-- "Covered", stated: what it means that none of 16, 17 and 18 applies to a goal; and what a run may begin with.
use Rattle.std.specs.Prelude.{ℕ, ◌<◌, ◌≡◌, ◌↔◌, List, Bool, true, false}
use Rattle.common.specs.Reply.{clear}
use Rattle.sheet.specs.Record.{byte}
use Rattle.sheet.specs.Model.{Model}
use Rattle.sheet.specs.Valid.{Valid}
use Rattle.plan.specs.Groups.{group_count}
use Rattle.plan.specs.Modes.{size}
use Rattle.plan.specs.Laws.{Connects}
use Rattle.plan.specs.Reading.{groups_in, well_shaped}
use Rattle.plan.specs.Shown.{usable_in}
use Rattle.command.specs.State.{state_faults}
use Rattle.command.specs.Goal.{Masks, goal_masks, met, allowed}
use Rattle.command.specs.Ancestors.{upstream_in}
use Rattle.command.specs.Attainable.{groups, present, live_group, dead_end, attain_faults}
use Rattle.command.specs.TurnedDown.{StateFits, GoalFits}

module _ (m : Model) (plan : List ℕ) (masks : Masks) where
  -- from mode p of group k the plan shows a route to an allowed mode
  abbrev pub Attains : ℕ → ℕ → Type 0
  Attains k p =
      (q : ℕ) × (q < size m (groups m plan) k) × (allowed m (groups m plan) masks k q ≡ true) × Connects m plan k p q

  -- whatever the routes of group a reach from mode p has a route to an allowed mode
  pub record Safe (a p : ℕ) : Type 0 where
    pub attains-from : (q : ℕ) → q < size m (groups m plan) a → Connects m plan a p q → Attains a q

-- By a test of the moves that count, and by what is said of an unmet group (A) and of one upstream of it (S), of a goal, the group
-- and its mode
module _ (m : Model) (plan : List ℕ) (counts : ℕ → Bool) (A S : Masks → ℕ → ℕ → Type 0) (masks : Masks) (state : List ℕ) where
  -- of the groups below n
  pub record Covered (n : ℕ) : Type 0 where
    -- not 16: an unmet group and those upstream of it are live
    pub itself-live : (k : ℕ) → k < n → met (groups m plan) masks state k ≡ false → live_group m plan state k ≡ true
    pub upstream-live : (k a : ℕ) → k < n → met (groups m plan) masks state k ≡ false
        → upstream_in m plan counts k a ≡ true → live_group m plan state a ≡ true
    -- not 17: an unmet group attains an allowed mode
    pub attains : (k : ℕ) → k < n → met (groups m plan) masks state k ≡ false
        → A masks k (present m plan state k)
    -- not 18: the groups upstream of an unmet group are safe
    pub no-dead-end : (k a : ℕ) → k < n → met (groups m plan) masks state k ≡ false
        → upstream_in m plan counts k a ≡ true → S masks a (present m plan state a)

-- What may be asked: a state and a goal that pass 13 and 14, the goal covered.
pub record Admitted (m : Model) (plan state goal : List ℕ) : Type 0 where
  pub state-fits : StateFits m state
  pub goal-fits : GoalFits m goal
  pub covered : Covered m plan (usable_in m plan) (Attains m plan) (Safe m plan) (goal_masks m goal) state (group_count (groups_in m plan))

-- Covered is exactly that none of 16, 17 and 18 applies, for any shaped plan of bytes and any state that passes 13.
abbrev pub CoveredExactly : Type 0
CoveredExactly =
    (m : Model) (plan state : List ℕ) (masks : Masks) → Valid m → well_shaped m plan ≡ true → ((i : ℕ) → byte plan i < 256)
    → clear (state_faults m state) ≡ true
    → (clear (attain_faults m plan (usable_in m plan) (dead_end m plan) state masks) ≡ true)
    ↔ Covered m plan (usable_in m plan) (Attains m plan) (Safe m plan) masks state (group_count (groups_in m plan))
