-- "Why a call is turned down", stated for 13 to 15: which number and place a faulty state, goal or plan gets, and in which
-- order. The sheet comes first.
use Rattle.std.specs.Prelude.{ℕ, ◌+◌, ◌*◌, ◌^◌, ◌≤◌, ◌<◌, ◌≡◌, ◌↔◌, List, true, length}
use Rattle.common.specs.Reply.{given, refused, clear}
use Rattle.sheet.specs.Record.{byte}
use Rattle.sheet.specs.Model.{Model, machine_count, mode_count}
use Rattle.sheet.specs.Parse.{Parsed, parse}
use Rattle.plan.specs.Shape.{Shaped}
use Rattle.command.specs.State.{state_faults}
use Rattle.command.specs.Goal.{goal_faults}
use Rattle.command.specs.Next.{next_reply}
use Rattle.command.specs.Apply.{apply_reply}

module _ (m : Model) where
  -- machine i has the mode that the state says, and its tag is 0 or 1
  abbrev pub Present : List ℕ → ℕ → Type 0
  Present state i = (byte state (2 * i) < mode_count m i) × (byte state (2 * i + 1) < 2)

  -- byte i of a goal allows a mode, and none that machine i does not have
  abbrev pub Sensible : List ℕ → ℕ → Type 0
  Sensible goal i = (byte goal i ≡ 0 → ⊥) × (byte goal i < 2 ^ mode_count m i)

  -- a state with a mode and a tag for each machine
  abbrev pub StateFits : List ℕ → Type 0
  StateFits state = (length state ≡ 2 * machine_count m) × ((i : ℕ) → i < machine_count m → Present state i)

  abbrev pub GoalFits : List ℕ → Type 0
  GoalFits goal = (length goal ≤ machine_count m) × ((i : ℕ) → i < length goal → Sensible goal i)

-- 13 and 14 apply to nothing else
abbrev pub StatePasses : Type 0
StatePasses = (m : Model) (state : List ℕ) → (clear (state_faults m state) ≡ true) ↔ StateFits m state

abbrev pub GoalPasses : Type 0
GoalPasses = (m : Model) (goal : List ℕ) → (clear (goal_faults m goal) ≡ true) ↔ GoalFits m goal

-- of n machines the first that is not right
pub record FirstWrong (Right : ℕ → Type 0) (n place : ℕ) : Type 0 where
  pub below : place < n
  pub wrong : Right place → ⊥
  pub before : (i : ℕ) → i < place → Right i

-- What is long enough and does not fit has a first machine that is not right.
abbrev pub FirstFound : Type 0
FirstFound =
    (m : Model) (bytes : List ℕ)
    → (length bytes ≡ 2 * machine_count m → (StateFits m bytes → ⊥) → (i : ℕ) × FirstWrong (Present m bytes) (machine_count m) i)
    × (length bytes ≤ machine_count m → (GoalFits m bytes → ⊥) → (i : ℕ) × FirstWrong (Sensible m bytes) (length bytes) i)

-- Next command, for a sheet that passes: 15 for the shape, then 13, then 14, the length before the bytes.
pub record NextTurnedDown (m : Model) (sheet plan state goal : List ℕ) : Type 0 where
  pub shape : (Shaped m plan → ⊥) → next_reply sheet plan state goal ≡ refused 15 0
  pub state-length : Shaped m plan → (length state ≡ 2 * machine_count m → ⊥) → next_reply sheet plan state goal ≡ refused 13 255
  pub state-machine : (i : ℕ) → Shaped m plan → length state ≡ 2 * machine_count m
      → FirstWrong (Present m state) (machine_count m) i → next_reply sheet plan state goal ≡ refused 13 i
  pub goal-length : Shaped m plan → StateFits m state → machine_count m < length goal
      → next_reply sheet plan state goal ≡ refused 14 255
  pub goal-byte : (i : ℕ) → Shaped m plan → StateFits m state → length goal ≤ machine_count m
      → FirstWrong (Sensible m goal) (length goal) i → next_reply sheet plan state goal ≡ refused 14 i

-- Applying, for a sheet that passes: 13.
pub record ApplyTurnedDown (m : Model) (sheet state : List ℕ) (machine command : ℕ) : Type 0 where
  pub state-length : (length state ≡ 2 * machine_count m → ⊥) → apply_reply sheet state machine command ≡ refused 13 255
  pub state-machine : (i : ℕ) → length state ≡ 2 * machine_count m → FirstWrong (Present m state) (machine_count m) i
      → apply_reply sheet state machine command ≡ refused 13 i

abbrev pub TurnedDown : Type 0
TurnedDown =
    (sheet plan state goal : List ℕ) (machine command : ℕ) (d : Parsed) → parse sheet ≡ given d
    → ((i : ℕ) → byte plan i < 256)
    → NextTurnedDown d.model sheet plan state goal × ApplyTurnedDown d.model sheet state machine command

-- A sheet that is refused is refused alike by both calls.
abbrev pub SheetBefore : Type 0
SheetBefore =
    (sheet : List ℕ) (n p : ℕ) → parse sheet ≡ refused n p
    → ((plan state goal : List ℕ) → next_reply sheet plan state goal ≡ refused n p)
    × ((state : List ℕ) (machine command : ℕ) → apply_reply sheet state machine command ≡ refused n p)
