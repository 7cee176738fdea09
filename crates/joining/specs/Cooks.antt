-- Cooks at the stove: joined goals and refusals as rows of one table over the definitions.
use Rattle.std.specs.Prelude.{◌≡◌, refl, ℕ, List, [], ◌∷◌, map, replicate}
use Rattle.common.specs.Bits.{bit, beyond}
use Rattle.common.specs.Lists.{up_to, all, any, find, sum, maximum}
use Rattle.common.specs.Reply.{Reply, given, refused, unless, and_then}
use Rattle.sheet.specs.Record.{word, record_at, part}
use Rattle.sheet.specs.Model.{move_of, is_same_move, with_machine, with_move}
use Rattle.sheet.specs.Faults.{wrong_move_length, bad_machine, bad_move, bad_guard, bad_guards, bad_command}
use Rattle.sheet.specs.Faults.{machine_faults, move_faults, late_faults, end_faults, faults_of}
use Rattle.sheet.specs.Parse.{extended, turn_at, parse_from, parse}
use Rattle.command.specs.Goal.{bad_byte, goal_faults}
use Rattle.command.specs.Examples.{stove}
use Rattle.joining.specs.Join.{goals_in, shared_modes, longest_goal, joined, nothing_shared, has_no_room, shared_faults, each_faults}
use Rattle.joining.specs.Join.{joined_reply, join_reply}

-- a call and its whole answer
pub record Joins : Type 0 where
  pub sheet : List ℕ
  pub lent : List ℕ
  pub room : ℕ
  pub reply : Reply (List ℕ)

abbrev pub joins : List ℕ → List ℕ → ℕ → Reply (List ℕ) → Joins
joins sheet lent room reply = record { sheet = sheet; lent = lent; room = room; reply = reply }

-- the definitions give each row's answer
abbrev pub EachJoins : List Joins → Type 0
EachJoins rows = map (λ r. join_reply r.sheet r.lent r.room) rows ≡ map (λ r. r.reply) rows

abbrev pub cooks : List Joins
cooks =
    -- no goal, one, and two of different lengths; the buffer may be longer
    joins stove [] 0 (given [])
    ∷ joins stove (3 ∷ 1 ∷ 2 ∷ 2 ∷ []) 3 (given (1 ∷ 2 ∷ 2 ∷ []))
    ∷ joins stove (2 ∷ 3 ∷ 2 ∷ 3 ∷ 1 ∷ 3 ∷ 6 ∷ []) 5 (given (1 ∷ 2 ∷ 6 ∷ []))
    -- eight goals of no machine, and a ninth
    ∷ joins stove (replicate 8 0) 0 (given [])
    ∷ joins stove (replicate 9 0) 0 (refused 14 255)
    -- the sheet comes first, then a goal that is cut short, then each goal in turn
    ∷ joins [] (1 ∷ []) 0 (refused 1 0)
    ∷ joins stove (1 ∷ 0 ∷ 2 ∷ 1 ∷ []) 3 (refused 14 255)
    ∷ joins stove (1 ∷ 1 ∷ 2 ∷ 1 ∷ 4 ∷ []) 3 (refused 14 1)
    ∷ joins stove (4 ∷ 1 ∷ 1 ∷ 1 ∷ 1 ∷ 1 ∷ 0 ∷ []) 3 (refused 14 255)
    -- 14 of the last goal comes before 19, and 19 before 12
    ∷ joins stove (1 ∷ 1 ∷ 1 ∷ 2 ∷ 1 ∷ 0 ∷ []) 3 (refused 14 0)
    ∷ joins stove (2 ∷ 3 ∷ 2 ∷ 2 ∷ 1 ∷ 1 ∷ []) 0 (refused 19 1)
    ∷ joins stove (2 ∷ 1 ∷ 1 ∷ []) 1 (refused 12 0)
    ∷ []

-- every row holds, by computation
pub cooks-join : EachJoins cooks
unfolding
    stove bit beyond up_to all any find sum maximum unless and_then word record_at part move_of with_machine with_move
    wrong_move_length bad_machine bad_move bad_guard bad_guards is_same_move bad_command machine_faults move_faults late_faults end_faults
    faults_of extended turn_at parse_from parse bad_byte goal_faults goals_in shared_modes longest_goal joined nothing_shared has_no_room
    shared_faults each_faults joined_reply join_reply
cooks-join = refl
