-- Upstream is what it means: named by the group's moves, or upstream of a group that is.
-- Assumes nothing.
use Prim.Native.Nat.{ℕ, zero, suc, ◌<◌}
use mathlib.Core.Path.{◌≡◌, refl}
use mathlib.Core.Logic.{◌↔◌}
use mathlib.Core.List.{List, Memᴰ}
use mathlib.Core.Bool.{Bool, true}
use Rattle.common.specs.Graph.{Graph, Chain, here, step}
use Rattle.sheet.specs.Model.{Model}
use Rattle.sheet.specs.Valid.{Valid}
use Rattle.plan.specs.Groups.{Grouping, group_count, named_outside}
use Rattle.plan.specs.Meaning.{NamesOutside}
use Rattle.plan.specs.Reading.{groups_in, well_shaped}
use Rattle.plan.specs.Reading.{counted}
use Rattle.plan.proofs.Named.{named-below}
use Rattle.plan.proofs.Words.{moves-mean, named-mean}
use Rattle.plan.proofs.Counted.{counted-moves}
use Rattle.command.specs.Ancestors.{group_graph, upstream_in, Ancestor, direct, through, UpstreamRight}
use Rattle.command.proofs.Shape.{groups-length}
use Rattle.command.proofs.Upstream.{group_graph-names, upstream-other, upstream-chain, named-upstream, upstream-trans}

module _ (m : Model) (valid : Valid m) (plan : List ℕ) (counts : ℕ → Bool) (shaped : well_shaped m plan ≡ true) where
  abbrev own : Grouping
  own = groups_in m plan

  abbrev graph : Graph
  graph = group_graph m own (counted m plan counts)

  -- a group that is named is named by a move
  named-by-move : (k a : ℕ) → Memᴰ a (named_outside m own k (counted m plan counts k))
      ↔ ((v : ℕ) × Memᴰ v (counted m plan counts k) × NamesOutside m own v a)
  named-by-move k a =
      named-mean m own (groups-length m valid plan shaped) valid a k (counted m plan counts k) (λ v l.
      (moves-mean m own v k).0 (counted-moves m plan counts k l))

  chain-ancestor : {d : ℕ} (k a : ℕ) → Chain graph (suc d) k a → Ancestor m (groups_in m plan) (counted m plan counts) k a
  chain-ancestor k a (step n l here) =
      let (v, v-in, names) = (named-by-move k n).0 (group_graph-names m own (counted m plan counts) k n l) in
      direct v v-in names
  chain-ancestor k a (step n l (step o h c)) =
      let (v, v-in, names) = (named-by-move k n).0 (group_graph-names m own (counted m plan counts) k n l) in
      through v n v-in names (chain-ancestor n a (step o h c))

  started : (d k a : ℕ) → Chain graph d k a → (a ≡ k → ⊥) → Ancestor m (groups_in m plan) (counted m plan counts) k a
  started zero k a here n = absurd (n refl)
  started (suc d) k a c n = chain-ancestor k a c

  ancestor-upstream : {k a : ℕ} → k < group_count (groups_in m plan) → Ancestor m (groups_in m plan) (counted m plan counts) k a
      → upstream_in m plan counts k a ≡ true
  ancestor-upstream {k = k} {a = a} h (direct v v-in names) =
      named-upstream m valid plan counts shaped k a ((named-by-move k a).1 (v, v-in, names)) h
  ancestor-upstream {k = k} {a = a} h (through v b v-in names r) =
      let l = (named-by-move k b).1 (v, v-in, names) in
      upstream-trans m valid plan counts shaped k b a (named-upstream m valid plan counts shaped k b l h)
      (ancestor-upstream (named-below m own k (counted m plan counts k) l) r)

pub upstream-right : UpstreamRight
upstream-right m plan counts k a valid shaped h = (
  λ u.
      let c = upstream-chain m (groups_in m plan) (counted m plan counts) k a u in
      started m valid plan counts shaped c.0 k a c.1 (upstream-other m (groups_in m plan) (counted m plan counts) k a u),
  ancestor-upstream m valid plan counts shaped h,
)
