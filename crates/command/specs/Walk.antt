-- Case 3's walk program: what it prints, line by line.
use Rattle.std.specs.Prelude.{ℕ, zero, suc, ◌+◌, List, [], ◌∷◌}
use Rattle.common.specs.Reply.{Reply, given, refused, and_then}
use Rattle.sheet.specs.Parse.{Parsed, parse}
use Rattle.plan.specs.Planning.{length_reply, plan_reply}
use Rattle.plan.specs.Reading.{bound_in}
use Rattle.command.specs.Next.{Next, done, command, next_reply}
use Rattle.command.specs.Apply.{Applied, apply_reply}

-- a machine, a command and the move that it was; `done`, the count and the bound; `refused`, the number and the place
pub data Line : Type 0 where
  sent : ℕ → ℕ → ℕ → Line
  finished : ℕ → ℕ → Line
  stopped : ℕ → ℕ → Line

-- one turn: nothing is left to be done, or a machine, a command and what applying it did
pub data Turn (A : Type 0) : Type 0 where
  over : Turn A
  obeyed : ℕ → ℕ → A → Turn A

-- applies a command that was given
unfoldable pub obey_reply : List ℕ → List ℕ → ℕ → ℕ → Reply (Turn Applied)
obey_reply sheet state i c = and_then (apply_reply sheet state i c) (λ a. given (obeyed i c a))

-- goes by what next command gives
abbrev pub turn_by : List ℕ → List ℕ → Next → Reply (Turn Applied)
turn_by sheet state done = given over
turn_by sheet state (command i c) = obey_reply sheet state i c

-- asks for the next command and obeys it
unfoldable pub turn_reply : List ℕ → List ℕ → List ℕ → List ℕ → Reply (Turn Applied)
turn_reply sheet plan state goal = and_then (next_reply sheet plan state goal) (turn_by sheet state)

module _ (sheet plan goal : List ℕ) (bound : ℕ) where
  -- at most n more lines, after a count of commands
  unfoldable pub obey : ℕ → ℕ → List ℕ → List Line
  obey zero count state = []
  obey (suc n) count state =
      elim (turn_reply sheet plan state goal) [
        | given t ↦ elim t [
          | over ↦ finished count bound ∷ []
          | obeyed i c a ↦ sent i c a.move ∷ obey n (count + 1) a.state
        ]
        | refused number place ↦ stopped number place ∷ []
      ]

abbrev pub bound_written : Reply Parsed → List ℕ → ℕ
bound_written (given d) plan = bound_in d.model plan
bound_written (refused number place) plan = 0

abbrev pub after_planning : List ℕ → List ℕ → List ℕ → Reply (List ℕ) → List Line
after_planning sheet state goal (given plan) =
    obey sheet plan goal (bound_written (parse sheet) plan) (suc (bound_written (parse sheet) plan)) 0 state
after_planning sheet state goal (refused number place) = stopped number place ∷ []

-- the lines of the walk: it plans with a buffer of the plan's length and the least scratch, and obeys its own commands
unfoldable pub walk_lines : List ℕ → List ℕ → List ℕ → List Line
walk_lines sheet state goal = after_planning sheet state goal (and_then (length_reply sheet) (λ n. plan_reply sheet n 512))
