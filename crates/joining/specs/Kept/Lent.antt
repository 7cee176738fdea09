-- How the code sees the lent goals.
use Rattle.std.specs.Prelude.{ℕ, ◌≤◌, ◌≡◌, Bool, true, false, length}
use mathlib.Core.List.{List, [], ◌∷◌, Memᴰ}
use Rattle.common.specs.Reply.{Reply, given, refused}
use Rattle.sets.specs.Kept.Sets.{both}
use Rattle.joining.specs.Join.{Goals, most_goals, goals_in}

-- whether a reply gives something
abbrev pub is_given : {A : Type 0} → Reply A → Bool
is_given (given a) = true
is_given (refused number place) = false

-- the slice holds these goals, at most eight and the last of them whole
abbrev pub Splits : List ℕ → Goals → Type 0
Splits lent goals = goals_in most_goals lent ≡ given goals

-- and none is longer than a sheet may have machines
pub record SplitsShort (lent : List ℕ) (goals : Goals) : Type 0 where
  pub holds : Splits lent goals
  pub short : (goal : List ℕ) → Memᴰ goal goals → length goal ≤ 32

-- masks of which each that a goal reaches keeps what the goal's byte allows
unfoldable pub narrowed : List ℕ → List ℕ → List ℕ
narrowed [] goal = []
narrowed (mask ∷ masks) [] = mask ∷ masks
narrowed (mask ∷ masks) (b ∷ goal) = both mask b ∷ narrowed masks goal

-- and so for each goal in turn
unfoldable pub narrowed_by : Goals → List ℕ → List ℕ
narrowed_by [] masks = masks
narrowed_by (goal ∷ goals) masks = narrowed_by goals (narrowed masks goal)
