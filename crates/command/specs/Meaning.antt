-- What the words about states, goals and moves mean: group modes of a state, what a goal allows, and where a move leads.
use Rattle.std.specs.Prelude.{ℕ, ◌<◌, ◌≡◌, ◌↔◌, true, length, get_or}
use mathlib.Core.List.{List, Memᴰ}
use Rattle.common.specs.Bits.{bit}
use Rattle.common.specs.Reply.{clear}
use Rattle.sheet.specs.Record.{byte}
use Rattle.sheet.specs.Model.{Guard, Model, machine_count, mode_count, is_live_mode, move_count, move_at}
use Rattle.sheet.specs.Valid.{Valid}
use Rattle.plan.specs.Groups.{group_of, members, moves_of}
use Rattle.plan.specs.Modes.{size, mode_in}
use Rattle.plan.specs.Usable.{leads, end_mode}
use Rattle.plan.specs.Meaning.{Belongs}
use Rattle.plan.specs.Reading.{groups_in, well_shaped}
use Rattle.command.specs.State.{mode_of, tag_of, state_faults}
use Rattle.command.specs.Goal.{Masks, goal_masks, guard_masks, met, allowed}
use Rattle.command.specs.Attainable.{present, live_group}

-- Machine i is as wished: in a mode that its byte of the goal holds; past the goal's end any mode is.
abbrev pub MachineMeets : List ℕ → List ℕ → ℕ → Type 0
MachineMeets goal state i = i < length goal → bit (byte goal i) (mode_of state i) ≡ true

-- The group modes of a state that passes 13, under any plan in shape.
pub record StateRight (m : Model) (plan state : List ℕ) : Type 0 where
  pub below : (k : ℕ) → present m plan state k < size m (groups_in m plan) k
  pub modes : (k i : ℕ) → Belongs m (groups_in m plan) i k → mode_in m (groups_in m plan) k (present m plan state k) i ≡ mode_of state i
  -- a group is live if each of its machines is in a live mode and has no tag
  pub live : (k : ℕ) → (live_group m plan state k ≡ true)
      ↔ ((i : ℕ) → Belongs m (groups_in m plan) i k → (is_live_mode m i (mode_of state i) ≡ true) × (tag_of state i ≡ 0))
  -- and met if each is in a mode that is allowed to it
  pub met_by : (masks : Masks) (k : ℕ) → (met (groups_in m plan) masks state k ≡ true)
      ↔ ((i : ℕ) → Belongs m (groups_in m plan) i k → bit (get_or masks i 255) (mode_of state i) ≡ true)

abbrev pub StatesRight : Type 0
StatesRight =
    (m : Model) (plan state : List ℕ) → Valid m → well_shaped m plan ≡ true → clear (state_faults m state) ≡ true
    → StateRight m plan state

-- What a goal allows, under any plan in shape.
pub record GoalRight (m : Model) (plan : List ℕ) : Type 0 where
  -- a group mode is allowed if the mode of each machine in it is
  pub allowed-by : (masks : Masks) (k q : ℕ) → (allowed m (groups_in m plan) masks k q ≡ true)
      ↔ ((i : ℕ) → Belongs m (groups_in m plan) i k → bit (get_or masks i 255) (mode_in m (groups_in m plan) k q i) ≡ true)
  -- the caller's goal: its byte for the machine, and any mode past its end
  pub wished : (goal : List ℕ) (i mode : ℕ) → i < machine_count m → mode < mode_count m i
      → (bit (get_or (goal_masks m goal) i 255) mode ≡ true) ↔ (i < length goal → bit (byte goal i) mode ≡ true)
  -- the needs of move v outside group k
  pub needed : (k v i mode : ℕ) → v < move_count m → i < machine_count m → mode < mode_count m i
      → (bit (get_or (guard_masks m (groups_in m plan) k (move_at m v)) i 255) mode ≡ true)
      ↔ ((g : Guard) → Memᴰ g (move_at m v).guards → g.machine ≡ i → (group_of (groups_in m plan) i ≡ k → ⊥)
      → bit g.mask mode ≡ true)

abbrev pub GoalsRight : Type 0
GoalsRight = (m : Model) (plan : List ℕ) → Valid m → well_shaped m plan ≡ true → GoalRight m plan

-- Where a move leads: its machine is in the to mode, every other machine of the group as before.
pub record LeadsRight (m : Model) (plan : List ℕ) (k v p : ℕ) : Type 0 where
  pub below : end_mode m (groups_in m plan) k (move_at m v) p < size m (groups_in m plan) k
  pub mover : mode_in m (groups_in m plan) k (end_mode m (groups_in m plan) k (move_at m v) p) (move_at m v).machine ≡ (move_at m v).to
  pub others : (i : ℕ) → Memᴰ i (members (groups_in m plan) k) → (i ≡ (move_at m v).machine → ⊥)
      → mode_in m (groups_in m plan) k (end_mode m (groups_in m plan) k (move_at m v) p) i ≡ mode_in m (groups_in m plan) k p i

abbrev pub MovesRight : Type 0
MovesRight =
    (m : Model) (plan : List ℕ) (k v p : ℕ) → Valid m → well_shaped m plan ≡ true
    → Memᴰ v (moves_of m (groups_in m plan) k) → p < size m (groups_in m plan) k
    → leads m (groups_in m plan) k (move_at m v) p ≡ true → LeadsRight m plan k v p
