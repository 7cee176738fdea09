-- The groups upstream of a group: those that its moves name, and theirs; their numbers are lower.
-- Assumes nothing.
use Prim.Native.Nat.{ℕ, ◌≤◌, ◌<◌}
use mathlib.Core.Path.{◌≡◌}
use mathlib.Core.List.{List, [], Memᴰ}
use mathlib.Core.Bool.{Bool, true, not}
use native.Mathlib.Omega.{arith}
use borrow.Author.Tests.{eqb-false, ne_eqb, not-true}
use lib.Dec.{eqb}
use lib.ListN.{length}
use Rattle.common.specs.Graph.{Chain, here, step, successors}
use Rattle.common.proofs.Bools.{and_intro, and_left, and_right, not_of_false}
use Rattle.common.proofs.Members.{length-map-up_to, get_or-map-up_to}
use Rattle.common.proofs.Graph.{chain-append, chain-invariant, successor-of-node, between-nodes, distance-below}
use Rattle.common.proofs.Graph.{connected-chain, chain-connected}
use Rattle.sheet.specs.Model.{Model}
use Rattle.sheet.specs.Valid.{Valid}
use Rattle.plan.specs.Groups.{Grouping, group_count, named_outside}
use Rattle.plan.specs.Reading.{groups_in, well_shaped}
use Rattle.plan.specs.Reading.{counted}
use Rattle.plan.proofs.Named.{named-below, named_other, named_more, named-lower}
use Rattle.plan.proofs.Counted.{counted-moves, moves-counted, counted-passes}
use Rattle.command.specs.Ancestors.{group_graph, upstream, upstream_in}
use Rattle.command.proofs.Shape.{shape-first}

-- the graph of groups
module _ (m : Model) (groups : Grouping) (counting : ℕ → List ℕ) where
  pub length-group_graph : length (group_graph m groups counting) ≡ group_count groups
  unfolding group_graph
  length-group_graph = length-map-up_to _ (group_count groups)

  pub group_graph-at : (k : ℕ) → k < group_count groups
      → successors (group_graph m groups counting) k ≡ named_outside m groups k (counting k)
  unfolding group_graph successors
  group_graph-at k h = get_or-map-up_to _ [] h

  -- a successor is named
  pub group_graph-names : (k a : ℕ) → Memᴰ a (successors (group_graph m groups counting) k)
      → Memᴰ a (named_outside m groups k (counting k))
  group_graph-names k a l =
      rw (group_graph-at k (omega (arith, length-group_graph, successor-of-node (group_graph m groups counting) k l))) at l

  -- upstream: another group, at the end of a chain
  pub upstream-other : (k a : ℕ) → upstream m groups counting k a ≡ true → a ≡ k → ⊥
  unfolding upstream
  upstream-other k a h = eqb-false a k (not-true _ (and_left _ _ h))

  pub upstream-chain : (k a : ℕ) → upstream m groups counting k a ≡ true → (d : ℕ) × Chain (group_graph m groups counting) d k a
  unfolding upstream
  upstream-chain k a h = connected-chain (group_graph m groups counting) k a (and_right (not (eqb a k)) _ h)

  pub upstream-nodes : (k a : ℕ) → upstream m groups counting k a ≡ true → (k < group_count groups) × (a < group_count groups)
  unfolding upstream
  upstream-nodes k a h =
      let g = group_graph m groups counting in
      let below = distance-below g k a (and_right (not (eqb a k)) _ h) in
      let nodes = between-nodes g k a (omega arith) in
      (omega (arith, length-group_graph), omega (arith, length-group_graph))

  pub chain-upstream : {d : ℕ} (k a : ℕ) → (a ≡ k → ⊥) → a < group_count groups → Chain (group_graph m groups counting) d k a
      → upstream m groups counting k a ≡ true
  unfolding upstream
  chain-upstream k a n h c =
      and_intro
      (not_of_false (ne_eqb a k n))
      (chain-connected (group_graph m groups counting) k a (omega (arith, length-group_graph)) c)

-- under a plan
module _ (m : Model) (valid : Valid m) (plan : List ℕ) (counts : ℕ → Bool) (shaped : well_shaped m plan ≡ true) where
  abbrev own : Grouping
  own = groups_in m plan

  pub named-upstream : (k a : ℕ) → Memᴰ a (named_outside m (groups_in m plan) k (counted m plan counts k))
      → k < group_count (groups_in m plan) → upstream_in m plan counts k a ≡ true
  named-upstream k a h b =
      let moves = counted m plan counts k in
      chain-upstream m own (counted m plan counts) k a (named_other m own k moves h) (named-below m own k moves h)
      (step a (rw (group_graph-at m own (counted m plan counts) k b) h) here)

  -- what a group names is lower
  named-falls : (k a : ℕ) → Memᴰ a (named_outside m own k (counted m plan counts k)) → a < k
  named-falls k a l =
      named-lower m own k (shape-first m plan shaped)
      (named_more m own k (counted m plan counts k) (λ v. counted-moves m plan counts k) l)

  pub upstream-below : (k a : ℕ) → upstream_in m plan counts k a ≡ true → a < k
  upstream-below k a h =
      let low : a ≤ k = chain-invariant (λ x. x ≤ k) falling (upstream-chain m own (counted m plan counts) k a h).1 (omega arith) in
      let other : a ≡ k → ⊥ = upstream-other m own (counted m plan counts) k a h in
      omega arith
    where
      falling : (x y : ℕ) → Memᴰ y (successors (group_graph m own (counted m plan counts)) x) → x ≤ k → y ≤ k
      falling x y l p = omega (arith, named-falls x y (group_graph-names m own (counted m plan counts) x y l))

  pub upstream-count : (k a : ℕ) → upstream_in m plan counts k a ≡ true → k < group_count (groups_in m plan)
  upstream-count k a h = (upstream-nodes m own (counted m plan counts) k a h).0

  pub upstream-trans : (k a b : ℕ) → upstream_in m plan counts k a ≡ true → upstream_in m plan counts a b ≡ true
      → upstream_in m plan counts k b ≡ true
  upstream-trans k a b h l =
      chain-upstream m own (counted m plan counts) k b
      (omega (arith, upstream-below k a h, upstream-below a b l))
      (upstream-nodes m own (counted m plan counts) a b l).1
      (chain-append (upstream-chain m own (counted m plan counts) k a h).1 (upstream-chain m own (counted m plan counts) a b l).1)

-- more moves count, more is upstream
module _ (m : Model) (plan : List ℕ) (counts other : ℕ → Bool) (more : (v : ℕ) → counts v ≡ true → other v ≡ true) where
  counted-more : (k v : ℕ) → Memᴰ v (counted m plan counts k) → Memᴰ v (counted m plan other k)
  counted-more k v l =
      moves-counted m plan other k (counted-moves m plan counts k l) (more v (counted-passes m plan counts k l))

  chain_more : {d : ℕ} (k a : ℕ) → Chain (group_graph m (groups_in m plan) (counted m plan counts)) d k a
      → Chain (group_graph m (groups_in m plan) (counted m plan other)) d k a
  chain_more k a here = here
  chain_more k a (step n l c) =
      let few = counted m plan counts in
      let node = successor-of-node (group_graph m (groups_in m plan) few) k l in
      let below : k < group_count (groups_in m plan) = omega (arith, length-group_graph m (groups_in m plan) few) in
      let named = named_more m (groups_in m plan) k (few k) (counted-more k) (group_graph-names m (groups_in m plan) few k n l) in
      step {p = k} n (rw (group_graph-at m (groups_in m plan) (counted m plan other) k below) named) (chain_more n a c)

  pub upstream-more : (k a : ℕ) → upstream_in m plan counts k a ≡ true → upstream_in m plan other k a ≡ true
  upstream-more k a u =
      let few = counted m plan counts in
      chain-upstream m (groups_in m plan) (counted m plan other) k a (upstream-other m (groups_in m plan) few k a u)
      (upstream-nodes m (groups_in m plan) few k a u).1 (chain_more k a (upstream-chain m (groups_in m plan) few k a u).1)
