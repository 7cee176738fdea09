-- The costs, group after group: each group's cost stays as computed and follows the rule, and the bound is their sum.
-- Assumes nothing.
use Prim.Native.Nat.{ℕ, ◌+◌, ◌*◌, ◌<◌}
use mathlib.Core.Path.{◌≡◌, refl, sym, ap, ◌∙◌}
use mathlib.Core.List.{List, [], map, Memᴰ}
use mathlib.Core.Bool.{true}
use native.Mathlib.Omega.{arith}
use lib.ListN.{get_or}
use Rattle.common.specs.Lists.{up_to, sum}
use Rattle.common.specs.Graph.{Matrix}
use Rattle.common.proofs.Lists.{map-cong}
use Rattle.common.proofs.Members.{up_to-below}
use Rattle.common.proofs.Snoc.{built-map, built-at}
use Rattle.sheet.specs.Model.{Model}
use Rattle.plan.specs.Groups.{Grouping, group_count, moves_of, named_outside}
use Rattle.plan.specs.Usable.{joined_by}
use Rattle.plan.specs.Routes.{usable_moves}
use Rattle.plan.specs.Reading.{needs_first}
use Rattle.plan.specs.Bound.{longest, cost_in, costs_upto, bound_of, plan_bound}
use Rattle.plan.proofs.Named.{named-lower, named_more}
use Rattle.plan.proofs.Usable.{usable-in}

-- for any moves that count
module _ (m : Model) (groups : Grouping) (counting : ℕ → List ℕ) (routes : List Matrix) where
  -- the cost of group k when it is computed
  abbrev cost_next : ℕ → ℕ
  cost_next k = cost_in m groups counting routes (costs_upto m groups counting routes k) k

  pub costs_upto-map : (k : ℕ) → costs_upto m groups counting routes k ≡ map cost_next (up_to k)
  unfolding costs_upto
  costs_upto-map = built-map (costs_upto m groups counting routes) cost_next refl (λ k. refl)

  pub costs_upto-at : {a k : ℕ} → a < k → get_or (costs_upto m groups counting routes k) a 0 ≡ cost_next a
  unfolding costs_upto
  costs_upto-at = built-at (costs_upto m groups counting routes) cost_next refl (λ k. refl) 0

  -- the cost of each group
  abbrev pub cost_by : ℕ → ℕ
  cost_by k = get_or (costs_upto m groups counting routes (group_count groups)) k 0

  pub bound-sum-by : bound_of m groups counting routes ≡ sum (map cost_by (up_to (group_count groups)))
  unfolding bound_of
  bound-sum-by =
      ap sum (costs_upto-map (group_count groups)
      ∙ map-cong _ _ (up_to (group_count groups)) (λ k l. sym (costs_upto-at (up_to-below (group_count groups) l))))

  pub cost-rule-by : needs_first m groups ≡ true
      → ((k v : ℕ) → Memᴰ v (counting k) → Memᴰ v (moves_of m groups k)) → {k : ℕ} → k < group_count groups
      → cost_by k ≡ longest (get_or routes k []) * (1 + sum (map cost_by (named_outside m groups k (counting k))))
  unfolding cost_in
  cost-rule-by first inside {k} h =
      costs_upto-at h
      ∙ ap (λ xs. longest (get_or routes k []) * (1 + sum xs))
      (map-cong _ _ (named_outside m groups k (counting k)) (λ a l.
      let low = named-lower m groups k first (named_more m groups k (counting k) (inside k) l) in
      costs_upto-at low ∙ sym (costs_upto-at (omega arith))))

-- for those that planning counts: the usable ones
module _ (m : Model) (groups : Grouping) (routes : List Matrix) where
  abbrev pub cost_of : ℕ → ℕ
  cost_of = cost_by m groups (usable_moves m groups (joined_by routes)) routes

  pub bound-sum : plan_bound m groups routes ≡ sum (map cost_of (up_to (group_count groups)))
  unfolding plan_bound
  bound-sum = bound-sum-by m groups (usable_moves m groups (joined_by routes)) routes

  pub cost-rule : needs_first m groups ≡ true → {k : ℕ} → k < group_count groups
      → cost_of k ≡ longest (get_or routes k [])
      * (1 + sum (map cost_of (named_outside m groups k (usable_moves m groups (joined_by routes) k))))
  cost-rule first =
      cost-rule-by m groups (usable_moves m groups (joined_by routes)) routes first (λ k v l. usable-in m groups routes k l)
