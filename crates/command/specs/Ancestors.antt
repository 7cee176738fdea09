-- "Upstream" of a group: the groups that it reaches through needs.
use Rattle.std.specs.Prelude.{ℕ, ◌<◌, ◌≡◌, ◌↔◌, Bool, true, not, ◌&&◌, eqb}
use mathlib.Core.List.{List, map, Memᴰ}
use Rattle.common.specs.Lists.{up_to}
use Rattle.common.specs.Graph.{Graph, distances, connected}
use Rattle.sheet.specs.Model.{Model}
use Rattle.sheet.specs.Valid.{Valid}
use Rattle.plan.specs.Groups.{Grouping, group_count, named_outside}
use Rattle.plan.specs.Meaning.{NamesOutside}
use Rattle.plan.specs.Reading.{groups_in, well_shaped}
use Rattle.plan.specs.Reading.{counted}

-- Given for each group those of its moves that count as naming other groups
module _ (m : Model) (groups : Grouping) (counting : ℕ → List ℕ) where
  -- for each group, the outside groups that its moves name
  unfoldable pub group_graph : Graph
  group_graph = map (λ k. named_outside m groups k (counting k)) (up_to (group_count groups))

  -- group a is upstream of group k
  unfoldable pub upstream : ℕ → ℕ → Bool
  upstream k a = not (eqb a k) && connected (distances group_graph) k a

  -- What it means: a group that the moves of k name, or that is upstream of one that they name.
  pub data Ancestor : ℕ → ℕ → Type 0 where
    direct : {k a : ℕ} (v : ℕ) → Memᴰ v (counting k) → NamesOutside m groups v a → Ancestor k a
    through : {k a : ℕ} (v b : ℕ) → Memᴰ v (counting k) → NamesOutside m groups v b → Ancestor b a → Ancestor k a

-- upstream under a plan, by a test of the moves that count
abbrev pub upstream_in : Model → List ℕ → (ℕ → Bool) → ℕ → ℕ → Bool
upstream_in m plan counts = upstream m (groups_in m plan) (counted m plan counts)

abbrev pub UpstreamRight : Type 0
UpstreamRight =
    (m : Model) (plan : List ℕ) (counts : ℕ → Bool) (k a : ℕ) → Valid m → well_shaped m plan ≡ true
    → k < group_count (groups_in m plan)
    → (upstream_in m plan counts k a ≡ true) ↔ Ancestor m (groups_in m plan) (counted m plan counts) k a
