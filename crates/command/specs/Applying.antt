-- "A command": when it acts, by which move, and what applying it leaves.
use Rattle.std.specs.Prelude.{ℕ, ◌≡◌, ◌↔◌, List, true, false}
use Rattle.common.specs.Reply.{given, refused, clear}
use Rattle.sheet.specs.Model.{Model, move_at}
use Rattle.sheet.specs.Parse.{Parsed, parse}
use Rattle.command.specs.State.{mode_of, tag_of, state_faults}
use Rattle.command.specs.Apply.{Answers, Applied, Effect, apply_reply, effect_reply, state_after}

-- What applying tells of the move, by the states before and afterwards.
pub record EffectRight (m : Model) (state after : List ℕ) (machine command : ℕ) (e : Effect) : Type 0 where
  -- a machine changed exactly if the state is another
  pub changed-exactly : (e.changed ≡ true) ↔ (after ≡ state → ⊥)
  -- then the move is the one that answers the command: no two can
  pub the-move : e.changed ≡ true
      → Answers m state machine command e.move × ((v : ℕ) → Answers m state machine command v → v ≡ e.move)
  -- else it is 255, and none does
  pub no_move : e.changed ≡ false → (e.move ≡ 255) × ((v : ℕ) → Answers m state machine command v → ⊥)

-- Applying a command to a state that passes 13.
pub record ApplyRight (m : Model) (sheet state : List ℕ) (machine command : ℕ) : Type 0 where
  pub replied : (a : Applied) × (apply_reply sheet state machine command ≡ given a)
  -- if a move answers, it is the one that acted, and that one machine has taken its to mode
  pub acted : (v : ℕ) (a : Applied) → Answers m state machine command v → apply_reply sheet state machine command ≡ given a
      → (a.move ≡ v) × (mode_of a.state machine ≡ (move_at m v).to)
  pub others : (i : ℕ) (a : Applied) → apply_reply sheet state machine command ≡ given a → (i ≡ machine → ⊥)
      → mode_of a.state i ≡ mode_of state i
  -- if none does, nothing changes
  pub idle : ((v : ℕ) → Answers m state machine command v → ⊥)
      → apply_reply sheet state machine command ≡ given (record { move = 255; state = state })
  -- a tagged machine does not change, and no tag does
  pub tagged : (tag_of state machine ≡ 0 → ⊥)
      → apply_reply sheet state machine command ≡ given (record { move = 255; state = state })
  pub tags : (i : ℕ) (a : Applied) → apply_reply sheet state machine command ≡ given a → tag_of a.state i ≡ tag_of state i
  -- what is told of it
  pub told : (e : Effect) → effect_reply (apply_reply sheet state machine command) ≡ given e
      → EffectRight m state (state_after (apply_reply sheet state machine command) state) machine command e

abbrev pub AppliesRight : Type 0
AppliesRight =
    (sheet state : List ℕ) (machine command : ℕ) (d : Parsed) → parse sheet ≡ given d
    → clear (state_faults d.model state) ≡ true → ApplyRight d.model sheet state machine command

-- What applying leaves in the lent state: what it replied, or all as it was, the refusal being told.
pub record StateLeft (sheet state : List ℕ) (machine command : ℕ) : Type 0 where
  pub written : (a : Applied) → apply_reply sheet state machine command ≡ given a
      → state_after (apply_reply sheet state machine command) state ≡ a.state
  pub kept : (n p : ℕ) → apply_reply sheet state machine command ≡ refused n p
      → (state_after (apply_reply sheet state machine command) state ≡ state)
      × (effect_reply (apply_reply sheet state machine command) ≡ refused n p)
