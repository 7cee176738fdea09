-- Demand 3, whole: one claim about every list of calls.
use Rattle.std.specs.Prelude.{ℕ, ◌≤◌, ◌<◌, ◌≡◌, ◌↔◌, List, ◌∷◌, ◌++◌, Bool, true}
use Rattle.common.specs.Reply.{given}
use Rattle.sheet.specs.Model.{Model, machine_count, move_count, move_at}
use Rattle.sheet.specs.Parse.{Parsed, parse}
use Rattle.plan.specs.Groups.{group_of, group_count}
use Rattle.plan.specs.Laws.{PlanLaws}
use Rattle.plan.specs.Planning.{plan_reply}
use Rattle.plan.specs.Reading.{groups_in, bound_in}
use Rattle.plan.specs.Shown.{usable_in}
use Rattle.command.specs.State.{mode_of, tag_of, with_mode}
use Rattle.command.specs.Meaning.{MachineMeets}
use Rattle.command.specs.Next.{Next, done, command}
use Rattle.command.specs.Covered.{Admitted}
use Rattle.command.specs.Method.{entry_move, PicksFor}
use Rattle.command.specs.Apply.{Answers, apply_reply, effect_reply}
use Rattle.command.specs.Run.{Lent, ask_reply, Call, ask, apply, some, Situation, begins, after_all, Run}

module _ (lent : Lent) (m : Model) where
  -- every machine of group k is as wished
  abbrev pub AsWished : List ℕ → ℕ → Type 0
  AsWished state k = (i : ℕ) → i < machine_count m → group_of (groups_in m lent.plan) i ≡ k → MachineMeets lent.goal state i

  -- all groups from g upward are as wished
  abbrev pub AsWishedFrom : List ℕ → ℕ → Type 0
  AsWishedFrom state g = (k : ℕ) → g ≤ k → k < group_count (groups_in m lent.plan) → AsWished state k

  -- "reached": every group is as wished
  abbrev pub Reached : List ℕ → Type 0
  Reached state = AsWishedFrom state 0

  -- what asking replies in a situation
  pub record Asked (s : Situation) : Type 0 where
    -- the reply is no refusal
    pub answered : (r : Next) × (ask_reply lent s.state ≡ given r)
    -- done if the goal is reached, and only then
    pub done-exactly : (ask_reply lent s.state ≡ given done) ↔ Reached s.state
    -- a command that is given finds its needs met: some move answers it
    pub finds-needs : (i c : ℕ) → ask_reply lent s.state ≡ given (command i c)
        → (v : ℕ) × Answers m s.state i c v
    -- its machine has no tag
    pub no-tag : (i c : ℕ) → ask_reply lent s.state ≡ given (command i c) → tag_of s.state i ≡ 0
    -- and there is room left under the bound
    pub within-bound : (i c : ℕ) → ask_reply lent s.state ≡ given (command i c) → s.applied < bound_in m lent.plan

  -- what applying the pending command does
  pub record Moved (s : Situation) : Type 0 where
    pub machine : ℕ
    pub byte : ℕ
    pub pends : s.pending ≡ some machine byte
    pub asked : ask_reply lent s.state ≡ given (command machine byte)
    -- the move that acts: the one named by the entry that the command was given by
    pub move : ℕ
    pub named : PicksFor m lent.plan s.state lent.goal (entry_move move)
    pub present : move < move_count m
    pub its_own : (move_at m move).machine ≡ machine
    -- applying is not refused, and the machine has moved: from the move's from mode to its to mode, which differs
    pub applies : apply_reply lent.sheet s.state machine byte
        ≡ given (record { move = move; state = with_mode s.state machine (move_at m move).to })
    pub was : mode_of s.state machine ≡ (move_at m move).from
    pub is-now : mode_of (with_mode s.state machine (move_at m move).to) machine ≡ (move_at m move).to
    pub differs : (move_at m move).from ≡ (move_at m move).to → ⊥
    -- and that move is told
    pub tells : effect_reply (apply_reply lent.sheet s.state machine byte) ≡ given (record { changed = true; move = move })

  -- the promise about a list of calls from a situation
  pub record Promise (start : Situation) (calls : List Call) : Type 0 where
    pub asking : (before later : List Call) → calls ≡ before ++ (ask ∷ later) → Asked (after_all lent start before)
    pub applying : (before later : List Call) → calls ≡ before ++ (apply ∷ later) → Moved (after_all lent start before)
    -- no more commands than the bound, and by then the goal is reached
    pub within : (after_all lent start calls).applied ≤ bound_in m lent.plan
    pub arrives : (before later : List Call) → calls ≡ before ++ later
        → bound_in m lent.plan ≤ (after_all lent start before).applied → Reached (after_all lent start before).state
    -- groups from g upward that are all met at some call are all met ever after
    pub stays : (before between later : List Call) → calls ≡ before ++ (between ++ later) → (g : ℕ)
        → AsWishedFrom (after_all lent start before).state g
        → AsWishedFrom (after_all lent start (before ++ between)).state g
    -- the tags are the same throughout
    pub tags-stay : (before later : List Call) → calls ≡ before ++ later → (i : ℕ)
        → tag_of (after_all lent start before).state i ≡ tag_of start.state i

-- With a sheet and the plan that planning wrote for it, and a state and goal that pass 13 and 14, the goal covered, every list of
-- calls that is a run keeps the promise.
abbrev pub Arrival : Type 0
Arrival =
    (lent : Lent) (state : List ℕ) (buffer scratch : ℕ) (d : Parsed) (calls : List Call)
    → parse lent.sheet ≡ given d
    → plan_reply lent.sheet buffer scratch ≡ given lent.plan
    → Admitted d.model lent.plan state lent.goal
    → Run lent (begins state) calls
    → Promise lent d.model (begins state) calls

-- The same for any plan that has the laws, whoever wrote it; `usable` says which moves it counts as usable.
abbrev pub ArrivalOfLaws : Type 0
ArrivalOfLaws =
    (lent : Lent) (state : List ℕ) (d : Parsed) (usable : ℕ → Bool) (longest cost : ℕ → ℕ) (calls : List Call)
    → parse lent.sheet ≡ given d
    → PlanLaws d.model lent.plan (usable_in d.model lent.plan) (λ v. usable v ≡ true) longest cost
    → Admitted d.model lent.plan state lent.goal
    → Run lent (begins state) calls
    → Promise lent d.model (begins state) calls
