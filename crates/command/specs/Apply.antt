-- Applying a command: by the move that acts, or none.
use Rattle.std.specs.Prelude.{ℕ, ◌<◌, ◌≡◌, Bool, true, cond, ◌&&◌, eqb, ltb}
use mathlib.Core.List.{List, Memᴰ}
use Rattle.common.specs.Lists.{up_to, all, find}
use Rattle.common.specs.Bits.{bit}
use Rattle.common.specs.Reply.{Reply, given, refused, unless, and_then}
use Rattle.sheet.specs.Model.{Guard, Model, move_count, move_at}
use Rattle.sheet.specs.Parse.{parse}
use Rattle.command.specs.State.{mode_of, tag_of, untagged, with_mode, state_faults}

-- no move
abbrev pub none_acts : ℕ
none_acts = 255

module _ (m : Model) (state : List ℕ) (machine command : ℕ) where
  -- move v answers the command: its machine and byte, from the mode that the machine is in, nothing that it needs missing,
  -- and no tag on the machine
  unfoldable pub acts : ℕ → Bool
  acts v =
      eqb (move_at m v).machine machine
      && eqb (move_at m v).from (mode_of state machine)
      && eqb (move_at m v).command command
      && all (λ g. bit g.mask (mode_of state g.machine)) (move_at m v).guards
      && untagged state machine

  -- What it means, need by need.
  pub record Answers (v : ℕ) : Type 0 where
    pub there : v < move_count m
    pub its-machine : (move_at m v).machine ≡ machine
    pub its-from : (move_at m v).from ≡ mode_of state machine
    pub its-byte : (move_at m v).command ≡ command
    pub its-needs : (g : Guard) → Memᴰ g (move_at m v).guards → bit g.mask (mode_of state g.machine) ≡ true
    pub no-tag : tag_of state machine ≡ 0

  unfoldable pub acting_move : ℕ
  acting_move = find acts (up_to (move_count m)) none_acts

  -- the state with the acting move made, or as it was
  unfoldable pub state_by : List ℕ
  state_by = cond (eqb acting_move none_acts) state (with_mode state machine (move_at m acting_move).to)

-- the move that acted, 255 for none, and the state afterwards
pub record Applied : Type 0 where
  pub move : ℕ
  pub state : List ℕ

abbrev pub applied_by : Model → List ℕ → ℕ → ℕ → Applied
applied_by m state machine command =
    record { move = acting_move m state machine command; state = state_by m state machine command }

-- the reply of applying a command: tests 1 to 8 and 21, then 13
unfoldable pub apply_reply : List ℕ → List ℕ → ℕ → ℕ → Reply Applied
apply_reply sheet state machine command =
    and_then (parse sheet) (λ d.
    unless (state_faults d.model state)
    (given (applied_by d.model state machine command)))

-- what applying tells: whether a machine changed, and the move that it was, 255 for none
pub record Effect : Type 0 where
  pub changed : Bool
  pub move : ℕ

abbrev pub effect_of : Applied → Effect
effect_of a = record { changed = ltb a.move none_acts; move = a.move }

-- the reply without the state itself, which is in the lent bytes
abbrev pub effect_reply : Reply Applied → Reply Effect
effect_reply (given a) = given (effect_of a)
effect_reply (refused number place) = refused number place

-- what applying leaves in the lent state
abbrev pub state_after : Reply Applied → List ℕ → List ℕ
state_after (given a) state = a.state
state_after (refused number place) state = state
