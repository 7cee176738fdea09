-- "A run": a list of calls, all lent one state.
use Rattle.std.specs.Prelude.{ℕ, suc, List, [], ◌∷◌}
use Rattle.common.specs.Reply.{Reply, given, refused}
use Rattle.command.specs.Next.{Next, done, command, next_reply}
use Rattle.command.specs.Apply.{apply_reply, state_after}

-- what is lent when asking, beside the state
pub record Lent : Type 0 where
  pub sheet : List ℕ
  pub plan : List ℕ
  pub goal : List ℕ

abbrev pub lend : List ℕ → List ℕ → List ℕ → Lent
lend sheet plan goal = record { sheet = sheet; plan = plan; goal = goal }

-- what asking replies
abbrev pub ask_reply : Lent → List ℕ → Reply Next
ask_reply lent state = next_reply lent.sheet lent.plan state lent.goal

pub data Call : Type 0 where
  -- "asking": next command, with what the run lends
  ask : Call
  -- "applying": what was last asked for, once
  apply : Call
  -- "refused": a call with the same state and other bytes, which is refused
  refused_next : Lent → Call
  refused_apply : (sheet : List ℕ) (machine command : ℕ) → Call

-- a command that was replied and not applied yet, or none
pub data Pending : Type 0 where
  none : Pending
  some : ℕ → ℕ → Pending

-- between two calls: the state, the pending command, and how many were applied
pub record Situation : Type 0 where
  pub state : List ℕ
  pub pending : Pending
  pub applied : ℕ

abbrev pub begins : List ℕ → Situation
begins state = record { state = state; pending = none; applied = 0 }

abbrev pub pending_of : Reply Next → Pending
pending_of (given done) = none
pending_of (given (command i c)) = some i c
pending_of (refused number place) = none

abbrev pub IsRefused : {A : Type 0} → Reply A → Type 0
IsRefused (given a) = ⊥
IsRefused (refused number place) = Unit {0}

abbrev pub IsPending : Pending → Type 0
IsPending none = ⊥
IsPending (some i c) = Unit {0}

module _ (lent : Lent) where
  -- what is left after applying the pending command
  abbrev pub applied_by : Situation → Pending → Situation
  applied_by s none = s
  applied_by s (some i c) =
      record {
        state = state_after (apply_reply lent.sheet s.state i c) s.state;
        pending = none;
        applied = suc s.applied;
      }

  -- what a call leaves
  unfoldable pub after : Situation → Call → Situation
  after s ask = record { state = s.state; pending = pending_of (ask_reply lent s.state); applied = s.applied }
  after s apply = applied_by s s.pending
  after s (refused_next other) = s
  after s (refused_apply sheet i c) =
      record { state = state_after (apply_reply sheet s.state i c) s.state; pending = s.pending; applied = s.applied }

  unfoldable pub after_all : Situation → List Call → Situation
  after_all s [] = s
  after_all s (c ∷ cs) = after_all (after s c) cs

  -- a call that a run may hold here
  abbrev pub Legal : Situation → Call → Type 0
  Legal s ask = Unit {0}
  Legal s apply = IsPending s.pending
  Legal s (refused_next other) = IsRefused (ask_reply other s.state)
  Legal s (refused_apply sheet i c) = IsRefused (apply_reply sheet s.state i c)

  -- the calls are a run from here
  abbrev pub Run : Situation → List Call → Type 0
  Run s [] = Unit {0}
  Run s (c ∷ cs) = Legal s c × Run (after s c) cs
