-- The picture of who needs whom: the groups, and an edge to each group from each outside group that its moves name.
use Rattle.std.specs.Prelude.{ℕ, Bool, length, eqb}
use mathlib.Core.List.{List, [], ◌∷◌, ◌++◌, map, flat_map}
use Rattle.common.specs.Lists.{up_to, any, filter}
use Rattle.sheet.specs.Model.{Model}
use Rattle.plan.specs.Groups.{Grouping, group_count, groups_of, moves_of, named_outside}

-- from the group that is needed to the one whose moves name it
pub record Edge : Type 0 where
  pub source : ℕ
  pub target : ℕ

abbrev pub edge : ℕ → ℕ → Edge
edge source target = record { source = source; target = target }

pub record Picture : Type 0 where
  pub groups : Grouping
  pub edges : List Edge

-- the pairs of numbers below n that are joined, by source and then by target
unfoldable pub edges_by : (ℕ → ℕ → Bool) → ℕ → List Edge
edges_by joined n = flat_map (λ a. map (edge a) (filter (joined a) (up_to n))) (up_to n)

-- the moves of group k name group a, which is another
unfoldable pub named_by : Model → Grouping → ℕ → ℕ → Bool
named_by m groups a k = any (eqb a) (named_outside m groups k (moves_of m groups k))

unfoldable pub picture_of : Model → Picture
picture_of m =
    let groups = groups_of m in
    record { groups = groups; edges = edges_by (named_by m groups) (group_count groups) }

-- a picture in bytes: the machine count, each machine's group, then source and target of each edge
unfoldable pub picture_bytes : Picture → List ℕ
picture_bytes p = length p.groups ∷ (p.groups ++ flat_map (λ e. e.source ∷ e.target ∷ []) p.edges)
