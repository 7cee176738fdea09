-- With larger distances and more named groups no cost is smaller, nor is the bound.
-- Assumes nothing.
use Prim.Native.Nat.{ℕ, zero, suc, ◌≤◌, ◌<◌, zero-le}
use mathlib.Core.Path.{◌≡◌, refl}
use mathlib.Core.List.{List, map}
use native.Mathlib.Nat.{mul-le-mul, not-suc-le-zero}
use native.Mathlib.Omega.{arith}
use borrow.Author.Tests.{ltb-true, ltb-false}
use lib.Dec.{ltb}
use lib.ListN.{get_or}
use Rattle.common.specs.Lists.{up_to, sum}
use Rattle.common.proofs.Bools.{by_cases}
use Rattle.common.proofs.Members.{up_to-below, get_or-map-up_to, get_or-map-up_to-past}
use Rattle.common.proofs.Snoc.{built-map}
use Rattle.common.proofs.Sums.{sum_mono}
use Rattle.plan.specs.Kept.CostSets.{move_cost, cost_with, costs_with, bound_with}

module _ (longest : ℕ → ℕ) (named : ℕ → List ℕ) where
  -- the cost of group k when it is computed
  abbrev cost_at : ℕ → ℕ
  cost_at k = cost_with longest named (costs_with longest named k) k

  pub costs-map : (k : ℕ) → costs_with longest named k ≡ map cost_at (up_to k)
  unfolding costs_with
  costs-map = built-map (costs_with longest named) cost_at refl (λ k. refl)

  cost-before : {a k : ℕ} → a < k → get_or (costs_with longest named k) a 0 ≡ cost_at a
  cost-before {k} h = rw (costs-map k) (get_or-map-up_to cost_at 0 h)

  cost-behind : {a k : ℕ} → k ≤ a → get_or (costs_with longest named k) a 0 ≡ 0
  cost-behind {k} h = rw (costs-map k) (get_or-map-up_to-past cost_at 0 h)

-- some numbers are worth no more than others together, whatever each is worth
abbrev pub Fewer : List ℕ → List ℕ → Type 0
Fewer xs ys = (f : ℕ → ℕ) → sum (map f xs) ≤ sum (map f ys)

-- in the second way of counting the first n groups name no fewer groups, and have no smaller distances
module _ (near far : ℕ → ℕ) (named others : ℕ → List ℕ) (n : ℕ) (longer : (k : ℕ) → k < n → near k ≤ far k)
    (fewer : (k : ℕ) → k < n → Fewer (named k) (others k)) where
  cost-grows : (j k : ℕ) → k < j → k < n → cost_at near named k ≤ cost_at far others k
  unfolding cost_with move_cost
  cost-grows zero k h l = absurd (not-suc-le-zero h)
  cost-grows (suc j) k h l =
      let lower : (a : ℕ) → get_or (costs_with near named k) a 0 ≤ get_or (costs_with far others k) a 0 = λ a.
      by_cases (ltb a k)
      (λ t.
      let b = ltb-true a k t in
      rw (cost-before near named b, cost-before far others b) (cost-grows j a (omega arith) (omega arith)))
      (λ f. rw (cost-behind near named (ltb-false a k f)) zero-le) in
      let more = fewer k l (λ a. get_or (costs_with far others k) a 0) in
      mul-le-mul (longer k l) (omega (arith, sum_mono _ _ (named k) (λ a m. lower a), more))

  pub bound-grows : bound_with near named n ≤ bound_with far others n
  unfolding bound_with
  bound-grows =
      rw (costs-map near named n, costs-map far others n)
      (sum_mono _ _ (up_to n) (λ k m. cost-grows (suc k) k (omega arith) (up_to-below n m)))
