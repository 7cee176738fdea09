-- The walk, stated: which lines it prints, for every outcome.
use Rattle.std.specs.Prelude.{ℕ, suc, ◌≡◌, List, [], ◌∷◌}
use Rattle.common.specs.Reply.{given, refused}
use Rattle.sheet.specs.Parse.{Parsed, parse}
use Rattle.plan.specs.Planning.{length_reply, plan_reply}
use Rattle.plan.specs.Reading.{bound_in}
use Rattle.command.specs.Next.{done, command, next_reply}
use Rattle.command.specs.Apply.{Applied, apply_reply}
use Rattle.command.specs.Walk.{Line, sent, finished, stopped, walk_lines}

-- the lines of obeying from a state, after a count of commands
module _ (sheet plan goal : List ℕ) (bound : ℕ) where
  pub data Obeys : ℕ → List ℕ → List Line → Type 0 where
    arrived : {count : ℕ} {state : List ℕ} → next_reply sheet plan state goal ≡ given done
        → Obeys count state (finished count bound ∷ [])
    halted : {count n p : ℕ} {state : List ℕ} → next_reply sheet plan state goal ≡ refused n p
        → Obeys count state (stopped n p ∷ [])
    went : {count i c : ℕ} {state : List ℕ} {lines : List Line} (a : Applied)
        → next_reply sheet plan state goal ≡ given (command i c) → apply_reply sheet state i c ≡ given a
        → Obeys (suc count) a.state lines → Obeys count state (sent i c a.move ∷ lines)

-- The walk's lines: a refusal of planning alone, or those of obeying the plan, to the end.
pub record WalkRight (sheet state goal : List ℕ) : Type 0 where
  pub unmeasured : (n p : ℕ) → length_reply sheet ≡ refused n p → walk_lines sheet state goal ≡ stopped n p ∷ []
  pub unplanned : (n p k : ℕ) → length_reply sheet ≡ given k → plan_reply sheet k 512 ≡ refused n p
      → walk_lines sheet state goal ≡ stopped n p ∷ []
  pub obeyed : (k : ℕ) (plan : List ℕ) (d : Parsed) → length_reply sheet ≡ given k → plan_reply sheet k 512 ≡ given plan
      → parse sheet ≡ given d → Obeys sheet plan goal (bound_in d.model plan) 0 state (walk_lines sheet state goal)
  -- and no other lines are
  pub alone : (k : ℕ) (plan : List ℕ) (d : Parsed) (lines : List Line) → length_reply sheet ≡ given k
      → plan_reply sheet k 512 ≡ given plan → parse sheet ≡ given d
      → Obeys sheet plan goal (bound_in d.model plan) 0 state lines → lines ≡ walk_lines sheet state goal

abbrev pub WalksRight : Type 0
WalksRight = (sheet state goal : List ℕ) → WalkRight sheet state goal
