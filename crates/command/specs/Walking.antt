-- The walk as the code makes it: planning into the front of a buffer, and one turn of obeying.
use Rattle.std.specs.Prelude.{ℕ, suc, ◌+◌, ◌≤◌, min, ◌≡◌, List, [], ◌∷◌, length, Option, Some, None, Result, Ok, Err}
use Rattle.common.specs.Reply.{Reply, given, refused, and_then}
use Rattle.sheet.specs.Refusal.{number_of}
use Rattle.sheet.specs.Parse.{parse}
use Rattle.plan.specs.Planning.{length_reply, plan_reply}
use Rattle.sheet.specs.declared.refusal.Refusal.{Refusal}
use Rattle.command.specs.declared.walking.Started.{Started}
use Rattle.command.specs.declared.walking.Obeyed.{Obeyed}
use Rattle.command.specs.Apply.{Applied}
use Rattle.command.specs.Says.{move_made}
use Rattle.command.specs.Walk.{Line, sent, finished, stopped, Turn, over, obeyed, turn_reply, obey}
use Rattle.command.specs.Walk.{bound_written, after_planning, walk_lines}

-- how long a plan is, and its bound
abbrev pub started : ℕ → ℕ → Started
started bytes bound = record { bytes = bytes; bound = bound }

-- planning into as much of a buffer as the plan needs, or all of it
unfoldable pub plan_front : List ℕ → ℕ → ℕ → Reply (List ℕ)
plan_front sheet buffer scratch = and_then (length_reply sheet) (λ n. plan_reply sheet (min n buffer) scratch)

abbrev pub start_reply : List ℕ → Reply (List ℕ) → Reply Started
start_reply sheet (given plan) = given (started (length plan) (bound_written (parse sheet) plan))
start_reply sheet (refused number place) = refused number place

-- what the code's answer says
abbrev pub start_says : Result Started Refusal → Reply Started
start_says (Ok s) = given s
start_says (Err r) = refused (number_of r.cause) r.place

-- what a turn tells: the machine, the command and the move; the state is in the lent bytes
abbrev pub turn_told : Reply (Turn Applied) → Reply (Turn ℕ)
turn_told (given over) = given over
turn_told (given (obeyed i c a)) = given (obeyed i c a.move)
turn_told (refused number place) = refused number place

-- the state after a turn
abbrev pub turn_leaves : Reply (Turn Applied) → List ℕ → List ℕ
turn_leaves (given over) state = state
turn_leaves (given (obeyed i c a)) state = a.state
turn_leaves (refused number place) state = state

-- what the code's answer says
abbrev pub turn_says : Result (Option Obeyed) Refusal → Reply (Turn ℕ)
turn_says (Ok None) = given over
turn_says (Ok (Some o)) = given (obeyed o.command.machine.0 o.command.byte (move_made o.made))
turn_says (Err r) = refused (number_of r.cause) r.place

-- the line of a turn, and those that come later if it sends a command
abbrev pub lines_by : Reply (Turn ℕ) → ℕ → ℕ → List Line → List Line
lines_by (given over) count bound later = finished count bound ∷ []
lines_by (given (obeyed i c v)) count bound later = sent i c v ∷ later
lines_by (refused number place) count bound later = stopped number place ∷ []

-- What the two have to do with the lines of the walk.
pub record TurnsRight (sheet state goal : List ℕ) : Type 0 where
  -- a buffer that is long enough
  pub begins : (buffer : ℕ) → ((n : ℕ) → length_reply sheet ≡ given n → n ≤ buffer)
      → walk_lines sheet state goal ≡ after_planning sheet state goal (plan_front sheet buffer 512)
  -- no plan is longer than this
  pub long-enough : (n : ℕ) → length_reply sheet ≡ given n → n ≤ 32944
  -- one turn
  pub goes_on : (plan : List ℕ) (bound n count : ℕ)
      → obey sheet plan goal bound (suc n) count state
      ≡ lines_by (turn_told (turn_reply sheet plan state goal)) count bound
      (obey sheet plan goal bound n (count + 1) (turn_leaves (turn_reply sheet plan state goal) state))
  -- a turn that is refused tells so and leaves the state
  pub kept : (plan : List ℕ) (i p : ℕ) → turn_reply sheet plan state goal ≡ refused i p
      → (turn_told (turn_reply sheet plan state goal) ≡ refused i p) × (turn_leaves (turn_reply sheet plan state goal) state ≡ state)
