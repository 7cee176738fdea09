-- The loops over costs: the sum over the groups that one names, and group after group the costs and their sum.
-- Costs stop at 65,536, and what is computed from them stops where the exact number does.
-- Assumes nothing.
use Prim.Native.Nat.{ℕ, ◌+◌, ◌*◌, ◌^◌, ◌≤◌, ◌<◌, min, zero-le}
use mathlib.Core.Path.{◌≡◌, refl, sym, ap, ◌∙◌}
use mathlib.Core.List.{List, [], ◌∷◌, map, map-append}
use native.Mathlib.Nat.{mul-le-mul}
use native.Mathlib.Numerals.{add-one}
use native.Mathlib.Omega.{arith}
use lib.ListN.{length, get_or, set, replicate, length-map, get_or-map}
use Rattle.common.specs.Bits.{bit}
use Rattle.common.specs.Lists.{up_to, sum, pad}
use Rattle.common.proofs.Lists.{map-cong, length-filter}
use Rattle.common.proofs.Members.{length-up_to, length-map-up_to}
use Rattle.common.proofs.Pad.{get_or-pad, set-pad, pad-nil}
use Rattle.common.proofs.Sums.{sum-append, sum_mono, sum-constant}
use Rattle.sets.specs.Kept.Sets.{alone, less, least, elements}
use Rattle.sets.proofs.Members.{elements-none, taken-elements, taken-fits}
use Rattle.plan.specs.Kept.CostSets.{capped_cost, move_cost, cost_with, costs_with, bound_with, bound_by_sets}
use Rattle.plan.proofs.Caps.{cap-rule}
use Rattle.plan.proofs.CostGrowth.{costs-map}

pub capped-cost-small : (n : ℕ) → capped_cost n ≤ 65536
unfolding capped_cost
capped-cost-small n = omega arith

-- the cap of a sum of two
capped-total : {a b y : ℕ} (s t : ℕ) → y ≡ capped_cost (a + b) → a ≡ capped_cost s → b ≡ capped_cost t
    → y ≡ capped_cost (s + sum (t ∷ []))
unfolding capped_cost sum
capped-total s t e ea eb = omega arith

-- `prepared`: what the groups taken so far cost, with one move, and those to come

-- no cost in the array passes 65,536
abbrev pub SmallCosts : List ℕ → Type 0
SmallCosts costs = (i : ℕ) → get_or costs i 0 ≤ 65536

pub record Prepares (costs : List ℕ) (named r rest : ℕ) : Type 0 where
  pub fits : rest < 2 ^ 64
  pub whole : r + sum (map (λ a. get_or costs a 0) (elements rest)) ≡ move_cost costs (elements named)

module _ (costs : List ℕ) (named : ℕ) where
  pub prepares-none : named < 2 ^ 64 → Prepares costs named 1 named
  unfolding move_cost
  prepares-none h = record { fits = h; whole = refl }

  pub prepared-small : SmallCosts costs → move_cost costs (elements named) ≤ 4194305
  unfolding move_cost elements
  prepared-small small =
      omega (
        arith,
        sum_mono (λ a. get_or costs a 0) (λ a. 65536) (elements named) (λ a l. small a),
        sum-constant (λ a. 65536) 65536 (elements named) (λ a l. refl),
        length-filter (bit named) (up_to 64),
        length-up_to 64,
      )

  pub cost-fits : {x p : ℕ} → SmallCosts costs → x < 256 → p ≡ move_cost costs (elements named) → x * p < 2 ^ 32
  cost-fits {x} {p} small h e =
      let a : x ≤ 255 = omega arith in
      let b : p ≤ 4194305 = omega (arith, prepared-small small) in
      omega (arith, mul-le-mul a b)

  module _ {r rest a : ℕ} (p : Prepares costs named r rest) (z : rest ≡ 0 → ⊥) (e : a ≡ least rest) where
    pub prepares-next : {t : ℕ} → t ≡ less rest (alone a) → Prepares costs named (r + get_or costs a 0) t
    unfolding sum
    prepares-next d =
        record {
          fits = taken-fits p.fits z e d;
          whole = omega (arith, rw (taken-elements p.fits z e d) at p.whole);
        }

    -- so the sum fits
    pub prepares-fits : SmallCosts costs → r + get_or costs a 0 < 2 ^ 32
    prepares-fits small = omega (arith, prepared-small small, (prepares-next refl).whole)

  pub prepares-end : {r rest : ℕ} → Prepares costs named r rest → rest ≡ 0
      → r ≡ move_cost costs (elements named)
  unfolding sum
  prepares-end p z = omega (arith, rw (z, elements-none) at p.whole)

-- `bound`: the costs of the first k groups, zeros behind them, and what these cost together

module _ (named longest : List ℕ) where
  abbrev longest_at : ℕ → ℕ
  longest_at k = get_or longest k 0

  abbrev named_at : ℕ → List ℕ
  named_at k = elements (get_or named k 0)

  pub record Costed (n k : ℕ) (costs : List ℕ) (total : ℕ) : Type 0 where
    pub inside : k ≤ n
    pub costs-are : costs ≡ pad 64 (map capped_cost (costs_with longest_at named_at k))
    pub total-is : total ≡ capped_cost (bound_with longest_at named_at k)

  pub costed-none : (n : ℕ) → Costed n 0 (replicate 64 0) 0
  unfolding costs_with bound_with sum capped_cost
  costed-none n = record { inside = zero-le; costs-are = sym (pad-nil 64); total-is = refl }

  costs-length : (k : ℕ) → length (costs_with longest_at named_at k) ≡ k
  costs-length k = ap length (costs-map longest_at named_at k) ∙ length-map-up_to _ k

  module _ {n k : ℕ} {costs : List ℕ} {total : ℕ} (d : Costed n k costs total) where
    costed-at : (a : ℕ) → get_or costs a 0 ≡ capped_cost (get_or (costs_with longest_at named_at k) a 0)
    unfolding capped_cost
    costed-at a = rw (d.costs-are, get_or-pad) (get_or-map capped_cost (costs_with longest_at named_at k) a 0)

    pub costed-small : SmallCosts costs
    costed-small a = rw (costed-at a) (capped-cost-small _)

    -- the cost of group k
    costed-cost : {p x : ℕ} → p ≡ move_cost costs (named_at k) → x ≡ capped_cost (longest_at k * p)
        → x ≡ capped_cost (cost_with longest_at named_at (costs_with longest_at named_at k) k)
    unfolding cost_with move_cost capped_cost
    costed-cost e ex =
        ex
        ∙ ap (λ p. min (longest_at k * p) 65536) e
        ∙ ap (λ xs. min (longest_at k * (1 + sum xs)) 65536) (map-cong _ _ (named_at k) (λ a l. costed-at a))
        ∙ cap-rule 65536 (longest_at k) (λ a. get_or (costs_with longest_at named_at k) a 0) (named_at k)

    pub costed-next : {p x y : ℕ} → n ≤ 64 → k < n → p ≡ move_cost costs (named_at k)
        → x ≡ capped_cost (longest_at k * p) → y ≡ capped_cost (total + x) → Costed n (k + 1) (set costs k x) y
    unfolding costs_with bound_with
    costed-next {x} few l e ex ey =
        let capped = map capped_cost (costs_with longest_at named_at k) in
        let long : length capped ≡ k = length-map (costs_with longest_at named_at k) capped_cost ∙ costs-length k in
        record {
          inside = omega arith;
          costs-are =
              rw (add-one, map-append, ← costed-cost e ex, ← set-pad 64 capped x (omega arith), long)
              (ap (λ xs. set xs k x) d.costs-are);
          total-is = rw (add-one, sum-append) (capped-total _ _ ey d.total-is (costed-cost e ex));
        }

    pub costed-end : n ≤ k → total ≡ capped_cost (bound_by_sets named longest n)
    unfolding bound_by_sets
    costed-end l = d.total-is ∙ ap (λ i. capped_cost (bound_with longest_at named_at i)) (omega (arith, d.inside))
