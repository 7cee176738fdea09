-- The bound: L is the largest distance of a group and is reached; the costs follow document 01's rule.
-- Assumes nothing.
use Prim.Native.Nat.{ℕ, ◌≤◌, ◌<◌}
use mathlib.Core.Path.{◌≡◌, refl, sym, subst, ◌∙◌}
use mathlib.Core.Logic.{◌↔◌}
use mathlib.Core.List.Memᴰ
use mathlib.Core.List.{List, [], map, Memᴰ}
use native.Mathlib.Omega.{arith}
use lib.ListN.{length, get_or}
use Rattle.common.specs.Lists.{up_to}
use Rattle.common.specs.Graph.{Matrix, between, connected}
use Rattle.common.proofs.Bools.{by_cases, cond-true, cond-false}
use Rattle.common.proofs.Members.{up_to-below, length-map-up_to}
use Rattle.common.proofs.Sums.{maximum-some}
use Rattle.sheet.specs.Model.{Model}
use Rattle.sheet.specs.Valid.{Valid}
use Rattle.plan.specs.Groups.{Grouping, group_count, groups_of, named_outside}
use Rattle.plan.specs.Modes.{size}
use Rattle.plan.specs.Usable.{joined_by}
use Rattle.plan.specs.Routes.{usable_moves}
use Rattle.plan.specs.Bound.{longest, plan_bound}
use Rattle.plan.specs.Meaning.{MoveOf, NamesOutside, Usable, ShortestRoute, BoundRight}
use Rattle.plan.specs.Promised.{BoundsRight, SmallGroups, own_bound}
use Rattle.plan.proofs.Modes.{size-positive}
use Rattle.plan.proofs.ModeDigits.{Rising, filter-rises}
use Rattle.plan.proofs.Words.{moves-mean, named-mean}
use Rattle.plan.proofs.Routes.{all_routes}
use Rattle.plan.proofs.Usable.{Ordered, own-ordered, in-usable, usable-in, usable_at, test-right}
use Rattle.plan.proofs.Distances.{routes-length, route-of-between, between-at-most, between-below, between-longest}
use Rattle.plan.proofs.Distances.{between-self, connected-size, cell, row}
use Rattle.plan.proofs.Costs.{cost_of, cost-rule, bound-sum}
use Rattle.plan.proofs.OwnLaws.{longest_of}

module _ (d : Matrix) where
  -- two nodes as far apart as any that are connected; where all distances are 0, some two
  pub record Farthest : Type 0 where
    pub from : ℕ
    pub to : ℕ
    pub from-below : from < length d
    pub to_below : to < length d
    pub far : cell d from to ≡ longest d

  pub farthest : 0 < length d → Farthest
  unfolding longest
  farthest h =
      let n = length d in
      let x = Memᴰ.of_map (row d) (up_to n) (maximum-some (map (row d) (up_to n)) (rw length-map-up_to h)) in
      let some = cell d x.0 in
      let y = Memᴰ.of_map some (up_to n) (maximum-some (map some (up_to n)) (rw length-map-up_to h)) in
      record {
        from = x.0;
        to = y.0;
        from-below = up_to-below n x.1;
        to_below = up_to-below n y.1;
        far = y.2 ∙ x.2;
      }

module _ {m : Model} {groups : Grouping} (o : Ordered m groups) where
  module _ {k : ℕ} (h : k < group_count groups) where
    abbrev matrix : Matrix
    matrix = get_or (all_routes m groups) k []

    pub shortest-between : (p q : ℕ) → q < size m groups k → between matrix p q < size m groups k
        → ShortestRoute m groups k (between matrix p q) p q
    shortest-between p q hq l =
        (route-of-between o h p q l, λ c r. between-at-most o h p q hq r)

    pub none-longer : (d p q : ℕ) → p < size m groups k → q < size m groups k → ShortestRoute m groups k d p q
        → d ≤ longest matrix
    none-longer d p q hp hq s =
        let l = between-below o h p q hq s.0 in
        omega (arith, s.1 _ (route-of-between o h p q l), between-longest o h p q hp hq l)

    pub one-as-long : (p : ℕ) × (q : ℕ) × (p < size m groups k) × (q < size m groups k)
        × ShortestRoute m groups k (longest matrix) p q
    one-as-long =
        let n = routes-length o h in
        let some = size-positive m o.valid groups o.all-machines k in
        let f = farthest matrix (rw n some) in
        by_cases (connected matrix f.from f.to)
        (λ t.
        let e : between matrix f.from f.to ≡ longest matrix = sym (cond-true _ 0 t) ∙ f.far in
        let q = rw n at f.to_below in (
          f.from,
          f.to,
          rw n at f.from-below,
          q,
          rw (← e) (shortest-between f.from f.to q (connected-size o h f.from f.to t)),
        ))
        (λ c.
        let e : 0 ≡ longest matrix = sym (cond-false (between matrix f.from f.to) 0 c) ∙ f.far in
        let z = between-self o h 0 some in
        (0, 0, some, some, subst (λ n. ShortestRoute m groups k n 0 0) (z ∙ e) (shortest-between 0 0 some (rw z some))))

  -- the usable moves of group k
  abbrev usables : ℕ → List ℕ
  usables = usable_moves m groups (joined_by (all_routes m groups))

  -- the outside groups that they name
  named-exactly : (k a : ℕ) → Memᴰ a (named_outside m groups k (usables k))
      ↔ ((v : ℕ) × MoveOf m groups v k × Usable m groups v × NamesOutside m groups v a)
  named-exactly k a =
      let routes = all_routes m groups in
      let own : (v : ℕ) → Memᴰ v (usables k) → MoveOf m groups v k = λ v l.
      (moves-mean m groups v k).0 (usable-in m groups routes k l) in
      let r = named-mean m groups o.all-machines o.valid a k _ own in (
        λ l.
            let (v, v-in, n) = r.0 l in
            let u = (test-right o k v (usable-in m groups routes k v-in)).0 (usable_at m groups routes k v-in) in
            (v, own v v-in, u, n),
        λ b.
            let (v, of-k, u, n) = b in
            let l = (moves-mean m groups v k).1 of-k in
            r.1 (v, in-usable m groups routes k l ((test-right o k v l).1 u), n),
      )

  named-once : (k : ℕ) → Rising (named_outside m groups k (usables k))
  unfolding named_outside
  named-once k = filter-rises _ (group_count groups)

  pub bound-right : (bound : ℕ) → bound ≡ plan_bound m groups (all_routes m groups) → BoundRight m groups bound
  bound-right bound e =
      record {
        longest = longest_of m groups;
        none-longer = λ k d p q h. none-longer h d p q;
        one-as-long = λ k h. one-as-long h;
        named = λ k. named_outside m groups k (usables k);
        named-exactly = λ k a h. named-exactly k a;
        named-once = named-once;
        cost = cost_of m groups (all_routes m groups);
        cost-is = λ k h. cost-rule m groups (all_routes m groups) o.first h;
        sum-of-costs = e ∙ bound-sum m groups (all_routes m groups);
      }

pub bounds-right : BoundsRight
bounds-right m valid = bound-right (own-ordered valid) (own_bound m) refl

-- a shortest route is shorter than its group is large
pub few-moves : {m : Model} → Valid m → SmallGroups m (groups_of m) → (k d p q : ℕ) → k < group_count (groups_of m)
    → q < size m (groups_of m) k → ShortestRoute m (groups_of m) k d p q → d < 64
few-moves valid small k d p q h hq s =
    let l = between-below (own-ordered valid) h p q hq s.0 in
    omega (arith, s.1 _ (route-of-between (own-ordered valid) h p q l), l, small k h)
