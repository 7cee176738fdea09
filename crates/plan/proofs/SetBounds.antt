-- The bound by sets of groups is the bound of the definitions. A rough bound, with one less than each group's size in
-- place of its longest distance, is no smaller.
-- Assumes nothing.
use Prim.Native.Nat.{ℕ, zero, suc, ◌≤◌, ◌<◌}
use mathlib.Core.Path.{◌≡◌, refl, sym, ap, ◌∙◌}
use mathlib.Core.List.Memᴰ
use mathlib.Core.List.{List, [], map, Memᴰ}
use mathlib.Core.Bool.{Bool, true, false, not}
use native.Mathlib.Nat.{le_antisymm, le_of_eq, le_refl}
use native.Mathlib.Omega.{arith}
use borrow.Author.Tests.{eqb-true, eq-eqb, lt-ltb, le-ltb, ltb-false}
use lib.Dec.{eqb, ltb}
use lib.ListN.{get_or}
use Rattle.common.specs.Bits.{bit}
use Rattle.common.specs.Lists.{up_to, any, filter, sum}
use Rattle.common.specs.Graph.{Matrix}
use Rattle.common.proofs.Bools.{bool-ext, and_intro, and_left, and_right}
use Rattle.common.proofs.Lists.{all-intro, any-intro, any_some}
use Rattle.common.proofs.Lists.{filter-mem, filter-from, filter-holds, filter-cong, filter-all}
use Rattle.common.proofs.Members.{up_to-below}
use Rattle.common.proofs.Sums.{sum-filter-mono}
use Rattle.sets.specs.Kept.Sets.{elements}
use Rattle.sets.proofs.Members.{element-bit, element-below}
use Rattle.sheet.specs.Model.{Model, move_at}
use Rattle.plan.specs.Groups.{Grouping, group_count, moves_of, names_group, named_outside}
use Rattle.plan.specs.Usable.{joined_by}
use Rattle.plan.specs.Routes.{usable_moves}
use Rattle.plan.specs.Bound.{longest, cost_in, costs_upto, bound_of, plan_bound}
use Rattle.plan.specs.Planning.{large_bound}
use Rattle.plan.specs.Kept.CostSets.{capped_cost, move_cost, cost_with, costs_with, bound_with, bound_by_sets}
use Rattle.plan.specs.Kept.CostSets.{NamedSets, LongestIn, RoughIn}
use Rattle.plan.proofs.ModeDigits.{filter-below}
use Rattle.plan.proofs.Routes.{all_routes}
use Rattle.plan.proofs.Distances.{longest-below, routes-size}
use Rattle.plan.proofs.Caps.{cap-test}
use Rattle.plan.proofs.CostGrowth.{Fewer, bound-grows}
use Rattle.plan.proofs.Usable.{usable-in}

-- a set that holds the numbers below n that, holds them in their order
members-are : (p : ℕ → Bool) {n : ℕ} (s : ℕ) → n ≤ 64
    → ((a : ℕ) → a < 64 → bit s a ≡ any (eqb a) (filter p (up_to n))) → elements s ≡ filter p (up_to n)
unfolding elements
members-are p {n} s few bits =
    sym (filter-all (λ j. ltb j n) (elements s) (all-intro _ _ (λ a l.
    lt-ltb a n (up_to-below n (filter-from p (up_to n) (held (element-below s l) (element-bit s l)))))))
    ∙ filter-below (bit s) n 64 few
    ∙ filter-cong (bit s) p (up_to n) (λ a l.
    let h : a < 64 = omega (arith, up_to-below n l) in
    bool-ext (λ t. filter-holds p (up_to n) (held h t))
    (λ t. bits a h ∙ any-intro (eqb a) (filter-mem p l t) (eq-eqb a a refl)))
  where
    held : {a : ℕ} → a < 64 → bit s a ≡ true → Memᴰ a (filter p (up_to n))
    held {a} h t =
        let (b, l, e) = any_some (eqb a) (filter p (up_to n)) (sym (bits a h) ∙ t) in
        Memᴰ.cast (eqb-true a b e) l

-- the same numbers
same-fewer : {xs ys : List ℕ} → xs ≡ ys → Fewer xs ys
same-fewer e f = le_of_eq (ap (λ zs. sum (map f zs)) e)

module _ (m : Model) (groups : Grouping) (counting : ℕ → List ℕ) (routes : List Matrix) where
  abbrev longest_of : ℕ → ℕ
  longest_of k = longest (get_or routes k [])

  abbrev named_of : ℕ → List ℕ
  named_of k = named_outside m groups k (counting k)

  costs-with : (n : ℕ) → costs_upto m groups counting routes n ≡ costs_with longest_of named_of n
  unfolding costs_upto cost_in costs_with cost_with move_cost
  costs-with zero = refl
  costs-with (suc n) = rw (costs-with n)

  bound-with : bound_of m groups counting routes ≡ bound_with longest_of named_of (group_count groups)
  unfolding bound_of bound_with
  bound-with = rw (costs-with (group_count groups))

  module _ {named : List ℕ} {n : ℕ} (all : n ≡ group_count groups) (few : n ≤ 64)
      (sets : NamedSets m groups counting n named) where
    named-are : (k : ℕ) → k < n → elements (get_or named k 0) ≡ named_of k
    unfolding named_outside
    named-are k h = members-are _ (get_or named k 0) (rw all at few) (sets.bits k h)

    -- with no smaller distances
    pub bound-below-sets : (far : List ℕ) → ((k : ℕ) → k < n → longest (get_or routes k []) ≤ get_or far k 0)
        → bound_of m groups counting routes ≤ bound_by_sets named far n
    unfolding bound_by_sets
    bound-below-sets far h =
        rw (bound-with, ← all) (bound-grows longest_of (λ k. get_or far k 0) named_of _ n h (λ k l. same-fewer (sym (named-are k l))))

    -- with the distances
    pub bound-by-sets : {far : List ℕ} → LongestIn routes n far
        → bound_by_sets named far n ≡ bound_of m groups counting routes
    unfolding bound_by_sets
    bound-by-sets {far} h =
        le_antisymm
        (rw (bound-with, ← all)
        (bound-grows (λ k. get_or far k 0) longest_of _ named_of n (λ k l. le_of_eq (h.each k l)) (λ k l. same-fewer (named-are k l))))
        (bound-below-sets far (λ k l. le_of_eq (sym (h.each k l))))

    pub bound-capped : {far : List ℕ} {r : ℕ} → LongestIn routes n far → r ≡ capped_cost (bound_by_sets named far n)
        → r ≡ capped_cost (bound_of m groups counting routes)
    bound-capped h e = e ∙ ap capped_cost (bound-by-sets h)

-- What a capped number tells

module _ {r : ℕ} (x : ℕ) (e : r ≡ capped_cost x) where
  pub capped-cost-test : ltb 65535 r ≡ ltb 65535 x
  unfolding capped_cost
  capped-cost-test = rw e (cap-test 65535 x)

  pub capped-cost-is : r ≤ 65535 → x ≡ r
  unfolding capped_cost
  capped-cost-is h = omega arith

-- a rough bound that fits tells that the exact one does
pub rough-fits : (m : Model) (groups : Grouping) (counting : ℕ → List ℕ) {named far : List ℕ} {n r : ℕ}
    → n ≡ group_count groups → n ≤ 64 → NamedSets m groups counting n named → RoughIn m groups n far
    → r ≡ capped_cost (bound_by_sets named far n) → r ≤ 65535 → bound_of m groups counting (all_routes m groups) ≤ 65535
rough-fits m groups counting {far} {n} all few sets h e small =
    omega (
      arith,
      capped-cost-is _ e small,
      bound-below-sets m groups counting (all_routes m groups) all few sets far longer,
    )
  where
    longer : (k : ℕ) → k < n → longest (get_or (all_routes m groups) k []) ≤ get_or far k 0
    longer k l = rw (h.each k l, ← routes-size m groups (rw all at l)) (longest-below _)

-- Where fewer moves count, the bound is no larger

module _ (m : Model) (groups : Grouping) {counting others : ℕ → List ℕ}
    (inside : (k v : ℕ) → Memᴰ v (counting k) → Memᴰ v (others k)) (routes : List Matrix) where
  fewer-named : (k : ℕ) → Fewer (named_outside m groups k (counting k)) (named_outside m groups k (others k))
  unfolding named_outside
  fewer-named k f =
      sum-filter-mono f _ _ (up_to (group_count groups)) (λ a l t.
      let (v, v-in, n) = any_some _ (counting k) (and_right (not (eqb a k)) _ t) in
      let other : not (eqb a k) ≡ true = and_left _ _ t in
      and_intro other (any-intro (λ w. names_group groups a (move_at m w)) (inside k v v-in) n))

  pub fewer-count : bound_of m groups counting routes ≤ bound_of m groups others routes
  fewer-count =
      rw (bound-with m groups counting routes, bound-with m groups others routes)
      (bound-grows _ _ _ _ (group_count groups) (λ k l. le_refl (longest (get_or routes k []))) (λ k l. fewer-named k))

-- The bound that planning writes, for which the usable moves count

pub usable-count : (m : Model) (groups : Grouping) (routes : List Matrix)
    → plan_bound m groups routes ≤ bound_of m groups (moves_of m groups) routes
unfolding plan_bound
usable-count m groups routes = fewer-count m groups (λ k v l. usable-in m groups routes k l) routes

module _ (m : Model) (groups : Grouping) {named far : List ℕ} {n r : ℕ} (all : n ≡ group_count groups) (few : n ≤ 64)
    (e : r ≡ capped_cost (bound_by_sets named far n)) where
  pub rough-not-large : NamedSets m groups (moves_of m groups) n named → RoughIn m groups n far → r ≤ 65535
      → large_bound m groups ≡ false
  unfolding large_bound
  rough-not-large sets h small =
      let rough = rough-fits m groups (moves_of m groups) all few sets h e small in
      le-ltb 65535 (plan_bound m groups (all_routes m groups)) (omega (arith, usable-count m groups (all_routes m groups)))

  pub bound-exact : NamedSets m groups (usable_moves m groups (joined_by (all_routes m groups))) n named
      → LongestIn (all_routes m groups) n far → r ≡ capped_cost (plan_bound m groups (all_routes m groups))
  unfolding plan_bound
  bound-exact sets h = bound-capped m groups _ (all_routes m groups) all few sets h e

-- what it tells
module _ (m : Model) (groups : Grouping) {r : ℕ} (e : r ≡ capped_cost (plan_bound m groups (all_routes m groups))) where
  pub bound-large : ltb 65535 r ≡ large_bound m groups
  unfolding large_bound
  bound-large = capped-cost-test _ e

  pub bound-told : large_bound m groups ≡ false → plan_bound m groups (all_routes m groups) ≡ r
  bound-told f = capped-cost-is _ e (ltb-false 65535 r (bound-large ∙ f))
