-- What joining means, and which refusal comes first: each thing said without its own definition.
use Rattle.std.specs.Prelude.{ℕ, ◌≤◌, ◌<◌, ◌≡◌, ◌↔◌, true, length}
use mathlib.Core.List.{List, [], ◌∷◌, ◌++◌, Memᴰ}
use Rattle.common.specs.Bits.{bit}
use Rattle.common.specs.Meaning.{OutputLeft}
use Rattle.common.specs.Reply.{given, refused}
use Rattle.sheet.specs.Record.{byte}
use Rattle.sheet.specs.Model.{Model, machine_count}
use Rattle.sheet.specs.Parse.{Parsed, parse}
use Rattle.command.specs.Meaning.{MachineMeets}
use Rattle.command.specs.TurnedDown.{Sensible, GoalFits, FirstWrong}
use Rattle.joining.specs.Join.{Goals, join_reply}

-- goals as they are lent: each after its length
abbrev pub lent_as : Goals → List ℕ
lent_as [] = []
lent_as (goal ∷ goals) = length goal ∷ (goal ++ lent_as goals)

-- a state meets a goal, by the goal's own bytes
abbrev pub Meets : Model → List ℕ → List ℕ → Type 0
Meets m goal state = (i : ℕ) → i < machine_count m → MachineMeets goal state i

-- each goal passes 14
abbrev pub EachFits : Model → Goals → Type 0
EachFits m goals = (goal : List ℕ) → Memᴰ goal goals → GoalFits m goal

module _ (goals : Goals) where
  -- every goal that names machine i allows the mode
  abbrev pub AllAllow : ℕ → ℕ → Type 0
  AllAllow i mode = (goal : List ℕ) → Memᴰ goal goals → i < length goal → bit (byte goal i) mode ≡ true

  -- some mode is allowed to machine i by all
  abbrev pub Shared : ℕ → Type 0
  Shared i = (mode : ℕ) × AllAllow i mode

  -- some goal is longer than n
  abbrev pub SomeLonger : ℕ → Type 0
  SomeLonger n = (goal : List ℕ) × Memᴰ goal goals × (n < length goal)

module _ (m : Model) (goals : Goals) where
  -- What is joined means all of the goals.
  pub record JoinRight (joint : List ℕ) : Type 0 where
    -- a state meets it exactly if it meets each of them
    pub meets : (goals ≡ [] → ⊥) → (state : List ℕ)
        → Meets m joint state ↔ ((goal : List ℕ) → Memᴰ goal goals → Meets m goal state)
    -- joining none leaves the empty goal, which every state meets
    pub none : goals ≡ [] → (joint ≡ []) × ((state : List ℕ) → Meets m joint state)
    -- it passes 14
    pub passes : GoalFits m joint
    -- it is as long as the longest
    pub longest : (n : ℕ) → (n < length joint) ↔ SomeLonger goals n
    -- and allows a machine that it names what all of them allow
    pub modes : (i mode : ℕ) → i < length joint → (bit (byte joint i) mode ≡ true) ↔ AllAllow goals i mode

  -- The reply, for a sheet that passes and at most eight goals.
  pub record JoinTold (sheet lent : List ℕ) (room : ℕ) : Type 0 where
    -- 14 of the first goal that does not fit, its length before its bytes, comes before all else
    pub goal-length : (before after : Goals) (goal : List ℕ) → goals ≡ before ++ (goal ∷ after)
        → EachFits m before → machine_count m < length goal
        → join_reply sheet lent room ≡ refused 14 255
    pub goal-byte : (before after : Goals) (goal : List ℕ) (i : ℕ) → goals ≡ before ++ (goal ∷ after)
        → EachFits m before → length goal ≤ machine_count m
        → FirstWrong (Sensible m goal) (length goal) i → join_reply sheet lent room ≡ refused 14 i
    -- 19: the first machine that a goal names and to which they leave no mode
    pub no_mode : (i : ℕ) → EachFits m goals → SomeLonger goals i → (Shared goals i → ⊥) → ((j : ℕ) → j < i → Shared goals j)
        → join_reply sheet lent room ≡ refused 19 i
    -- 12
    pub no_room : EachFits m goals → ((i : ℕ) → SomeLonger goals i → Shared goals i) → SomeLonger goals room → join_reply sheet lent room ≡ refused 12 0
    -- else they are joined
    pub joins : EachFits m goals → ((i : ℕ) → SomeLonger goals i → Shared goals i) → (SomeLonger goals room → ⊥)
        → (joint : List ℕ) × (join_reply sheet lent room ≡ given joint) × JoinRight joint

-- A sheet that is refused is refused before all else; then a slice that does not hold up to eight whole goals; then the rest.
abbrev pub JoinsRight : Type 0
JoinsRight =
    (sheet lent : List ℕ) (room : ℕ)
    → ((n p : ℕ) → parse sheet ≡ refused n p → join_reply sheet lent room ≡ refused n p)
    × ((d : Parsed) → parse sheet ≡ given d
    → (((goals : Goals) → length goals ≤ 8 → lent ≡ lent_as goals → ⊥) → join_reply sheet lent room ≡ refused 14 255)
    × ((goals : Goals) → length goals ≤ 8 → lent ≡ lent_as goals → JoinTold d.model goals sheet lent room))

-- What joining leaves in the lent buffer: the joined goal, behind it what was there, and all as it was if it is refused.
abbrev pub JoinLeft : List ℕ → List ℕ → List ℕ → Type 0
JoinLeft sheet lent before = OutputLeft (join_reply sheet lent (length before)) before
