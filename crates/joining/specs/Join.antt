-- Several goals ("wishes") for the same time, joined into one, with 14, 19 and 12 of that call.
use Rattle.std.specs.Prelude.{ℕ, zero, suc, ◌^◌, List, [], ◌∷◌, ◌++◌, map, Bool, cond, length, take, drop, eqb, ltb}
use Rattle.common.specs.Lists.{up_to, all, any, find, sum, maximum}
use Rattle.common.specs.Bits.{bit}
use Rattle.common.specs.Reply.{Reply, given, refused, Fault, fault, unless, and_then}
use Rattle.sheet.specs.Model.{Model}
use Rattle.sheet.specs.Parse.{parse}
use Rattle.command.specs.Goal.{goal_faults}
use Rattle.command.specs.Goal.{wished}

abbrev pub Goals : Type 0
Goals = List (List ℕ)

-- at most so many are joined
abbrev pub most_goals : ℕ
most_goals = 8

-- at most n goals, lent in one slice, each after a byte with its length: one more, or one that is cut short, is 14
unfoldable pub goals_in : ℕ → List ℕ → Reply Goals
goals_in zero [] = given []
goals_in zero (len ∷ rest) = refused 14 255
goals_in (suc n) [] = given []
goals_in (suc n) (len ∷ rest) =
    let later = and_then (goals_in n (drop len rest)) (λ goals. given (take len rest ∷ goals)) in
    unless (fault 14 255 (ltb (length rest) len) ∷ []) later

module _ (goals : Goals) where
  -- the modes of machine i that every goal allows, as a byte
  unfoldable pub shared_modes : ℕ → ℕ
  shared_modes i = sum (map (λ mode. cond (all (λ goal. bit (wished goal i) mode) goals) (2 ^ mode) 0) (up_to 8))

  unfoldable pub longest_goal : ℕ
  longest_goal = maximum (map length goals)

  -- the joined goal: as long as the longest
  unfoldable pub joined : List ℕ
  joined = map shared_modes (up_to longest_goal)

  -- 19: a machine is left without a mode (place the first such machine)
  unfoldable pub nothing_shared : ℕ → Bool
  nothing_shared i = eqb (shared_modes i) 0

  -- 12: the joined goal does not fit the buffer
  unfoldable pub has_no_room : ℕ → Bool
  has_no_room room = ltb room longest_goal

  -- 19, then 12
  unfoldable pub shared_faults : ℕ → List Fault
  shared_faults room =
      fault 19 (find nothing_shared (up_to longest_goal) 0) (any nothing_shared (up_to longest_goal))
      ∷ fault 12 0 (has_no_room room)
      ∷ []

-- 14 of each goal in turn
unfoldable pub each_faults : Model → Goals → List Fault
each_faults m [] = []
each_faults m (goal ∷ goals) = goal_faults m goal ++ each_faults m goals

-- the reply of joining, with the length of the lent buffer: tests 14 of the slice, 14 of each goal, 19, 12
unfoldable pub joined_reply : Model → List ℕ → ℕ → Reply (List ℕ)
joined_reply m lent room =
    and_then (goals_in most_goals lent) (λ goals. unless (each_faults m goals ++ shared_faults goals room) (given (joined goals)))

-- and 1 to 8 and 21 before them
unfoldable pub join_reply : List ℕ → List ℕ → ℕ → Reply (List ℕ)
join_reply sheet lent room = and_then (parse sheet) (λ d. joined_reply d.model lent room)
