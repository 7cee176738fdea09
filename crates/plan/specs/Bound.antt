-- "The plan": the cost of each group and the bound. Exact numbers, however large.
use Rattle.std.specs.Prelude.{ℕ, zero, suc, ◌+◌, ◌*◌, List, [], ◌∷◌, ◌++◌, map, cond, length, get_or}
use Rattle.common.specs.Lists.{up_to, sum, maximum}
use Rattle.common.specs.Graph.{Matrix, between, connected}
use Rattle.sheet.specs.Model.{Model}
use Rattle.plan.specs.Groups.{Grouping, group_count, named_outside}
use Rattle.plan.specs.Usable.{joined_by}
use Rattle.plan.specs.Routes.{usable_moves}

-- L of a group: the distance of its farthest two modes that a route joins
unfoldable pub longest : Matrix → ℕ
longest d =
    maximum (map (λ p. maximum (map (λ q. cond (connected d p q) (between d p q) 0) (up_to (length d)))) (up_to (length d)))

-- Costs, given for each group those of its moves that count as naming other groups
module _ (m : Model) (groups : Grouping) (counting : ℕ → List ℕ) (routes : List Matrix) where
  -- the cost of group k, given those of the lower groups: for each of L moves, itself and what preparing it may cost
  unfoldable pub cost_in : List ℕ → ℕ → ℕ
  cost_in lower k =
      longest (get_or routes k []) * (1 + sum (map (λ a. get_or lower a 0) (named_outside m groups k (counting k))))

  -- the costs of the first n groups
  unfoldable pub costs_upto : ℕ → List ℕ
  costs_upto zero = []
  costs_upto (suc k) =
      let lower = costs_upto k in
      lower ++ (cost_in lower k ∷ [])

  -- what all groups cost together
  unfoldable pub bound_of : ℕ
  bound_of = sum (costs_upto (group_count groups))

-- the bound that planning writes: the usable moves count
unfoldable pub plan_bound : Model → Grouping → List Matrix → ℕ
plan_bound m groups routes = bound_of m groups (usable_moves m groups (joined_by routes)) routes
