-- How the code keeps costs: by sets of groups, and as numbers that stop at one more than a bound may be.
use Rattle.std.specs.Prelude.{ℕ, zero, suc, ◌+◌, ◌-◌, ◌*◌, ◌<◌, min, ◌≡◌, List, [], ◌∷◌, ◌++◌, map, get_or, eqb}
use Rattle.common.specs.Bits.{bit}
use Rattle.common.specs.Lists.{any, sum}
use Rattle.common.specs.Graph.{Matrix}
use Rattle.sets.specs.Kept.Sets.{elements}
use Rattle.sheet.specs.Model.{Model}
use Rattle.plan.specs.Groups.{Grouping, named_outside}
use Rattle.plan.specs.Modes.{size}
use Rattle.plan.specs.Bound.{longest}

-- a cost, or 65,536 for any that is larger
unfoldable pub capped_cost : ℕ → ℕ
capped_cost n = min n 65536

-- one move, and what preparing it in the groups that are named may cost, given the costs of groups
unfoldable pub move_cost : List ℕ → List ℕ → ℕ
move_cost costs named = 1 + sum (map (λ a. get_or costs a 0) named)

-- Exact costs, given each group's L and the groups that it names
module _ (longest_of : ℕ → ℕ) (named : ℕ → List ℕ) where
  -- the cost of group k, given those of the lower groups
  unfoldable pub cost_with : List ℕ → ℕ → ℕ
  cost_with lower k = longest_of k * move_cost lower (named k)

  -- the costs of the first n groups
  unfoldable pub costs_with : ℕ → List ℕ
  costs_with zero = []
  costs_with (suc k) =
      let lower = costs_with k in
      lower ++ (cost_with lower k ∷ [])

  -- what they cost together
  unfoldable pub bound_with : ℕ → ℕ
  bound_with n = sum (costs_with n)

-- the same, given a list of each group's L and a list of the sets of groups that each names
unfoldable pub bound_by_sets : List ℕ → List ℕ → ℕ → ℕ
bound_by_sets named longests n = bound_with (λ k. get_or longests k 0) (λ k. elements (get_or named k 0)) n

-- for each of the first n groups, the set of the outside groups that those of its moves that count name
pub record NamedSets (m : Model) (groups : Grouping) (counting : ℕ → List ℕ) (n : ℕ) (named : List ℕ) : Type 0 where
  pub bits : (k : ℕ) → k < n → (a : ℕ) → a < 64
      → bit (get_or named k 0) a ≡ any (eqb a) (named_outside m groups k (counting k))

-- for each of them, its L
pub record LongestIn (routes : List Matrix) (n : ℕ) (longests : List ℕ) : Type 0 where
  pub each : (k : ℕ) → k < n → get_or longests k 0 ≡ longest (get_or routes k [])

-- for each of them, one less than its size, which L does not pass
pub record RoughIn (m : Model) (groups : Grouping) (n : ℕ) (longests : List ℕ) : Type 0 where
  pub each : (k : ℕ) → k < n → get_or longests k 0 ≡ size m groups k - 1
