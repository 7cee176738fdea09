-- The graph of needs: its successors are the machines needed, its chains are `Reaches`.
-- Assumes nothing.
use Prim.Native.Nat.{ℕ, suc, ◌<◌}
use mathlib.Core.Path.{◌≡◌, refl}
use mathlib.Core.List.{[], Memᴰ}
use mathlib.Core.Bool.{true}
use lib.ListN.{length}
use Rattle.common.specs.Lists.{up_to, filter}
use Rattle.common.specs.Graph.{successors, Chain, here, step, distances, connected}
use Rattle.common.proofs.Members.{up_to-mem, up_to-below, length-map-up_to, get_or-map-up_to}
use Rattle.common.proofs.Lists.{filter-mem, filter-from, filter-holds}
use Rattle.common.proofs.Graph.{successor-of-node, connected-chain, chain-connected}
use Rattle.sheet.specs.Model.{Guard, Move, Model, machine_count}
use Rattle.plan.specs.Needs.{needs, need_graph, Needs, Reaches, itself, through}
use Rattle.plan.proofs.Words.{needs-means}

module _ (m : Model) where
  -- a guard is a need of its move's machine
  pub guard-needs : {v : Move} {g : Guard} → Memᴰ v m.moves → Memᴰ g v.guards
      → Needs m v.machine g.machine
  guard-needs {v} {g} v-in g-in =
      record { move = v; listed = v-in; its_own = refl; need = g; among = g-in; on = refl }

  -- The graph

  pub length-need_graph : length (need_graph m) ≡ machine_count m
  unfolding need_graph
  length-need_graph = length-map-up_to _ (machine_count m)

  pub successors-need_graph : (i : ℕ) → i < machine_count m
      → successors (need_graph m) i ≡ filter (needs m i) (up_to (machine_count m))
  unfolding need_graph successors
  successors-need_graph i h = get_or-map-up_to _ [] h

  pub need-successor : {i j : ℕ} → i < machine_count m → j < machine_count m → Needs m i j
      → Memᴰ j (successors (need_graph m) i)
  need-successor {i} {j} hi hj n =
      rw (successors-need_graph i hi) (filter-mem (needs m i) (up_to-mem hj) ((needs-means m i j).1 n))

  pub successor-need : {j : ℕ} (i : ℕ) → Memᴰ j (successors (need_graph m) i)
      → (i < machine_count m) × (j < machine_count m) × Needs m i j
  successor-need {j} i l =
      let h : i < machine_count m = rw length-need_graph at (successor-of-node (need_graph m) i l) in
      let f = rw (successors-need_graph i h) at l in
      let n = machine_count m in
      (h, up_to-below n (filter-from (needs m i) (up_to n) f), (needs-means m i j).0 (filter-holds (needs m i) (up_to n) f))

  -- Its chains

  pub chain-reaches : {d i j : ℕ} → Chain (need_graph m) d i j → Reaches m i j
  chain-reaches here = itself
  chain-reaches {i} (step k l c) =
      let s = successor-need i l in
      through k s.1 s.2 (chain-reaches c)

  pub reaches-chain : {i j : ℕ} → i < machine_count m → Reaches m i j → (d : ℕ) × Chain (need_graph m) d i j
  reaches-chain h itself = (0, here)
  reaches-chain h (through k hk t r) =
      let c = reaches-chain hk r in
      (suc c.0, step k (need-successor h hk t) c.1)

  pub connected-reaches : (i j : ℕ) → connected (distances (need_graph m)) i j ≡ true → Reaches m i j
  connected-reaches i j t = chain-reaches (connected-chain (need_graph m) i j t).1

  pub reaches-connected : (i j : ℕ) → i < machine_count m → j < machine_count m → Reaches m i j
      → connected (distances (need_graph m)) i j ≡ true
  reaches-connected i j hi hj r =
      chain-connected (need_graph m) i j (rw length-need_graph hj) (reaches-chain hi r).1
