-- The number that falls: how many commands a goal may still take. It is 0 where all is met, at most its scope's cost.
-- Assumes nothing.
use Prim.Native.Nat.{ℕ, zero, suc, ◌+◌, ◌-◌, ◌*◌, ◌≤◌, ◌<◌}
use mathlib.Core.Path.{◌≡◌, refl, ◌∙◌}
use mathlib.Core.Logic.{⊎_elim}
use mathlib.Core.List.{List, map, Memᴰ}
use mathlib.Core.Bool.{Bool, true, false, cond}
use native.Mathlib.Nat.{le_trans, suc-mul, mul-le-mul_right}
use native.Mathlib.Omega.{arith}
use Rattle.common.specs.Lists.{sum}
use Rattle.common.proofs.Bools.{by_cases, true-false}
use Rattle.common.proofs.Least.{mem-or-not}
use Rattle.common.proofs.SumsBelow.{sum_below, sum_below-up, sum_below-mem, sum_below-le}
use Rattle.sheet.specs.Model.{Model, move_at}
use Rattle.sheet.specs.Valid.{Valid}
use Rattle.plan.specs.Groups.{group_count, moves_of, named_outside}
use Rattle.plan.specs.Reading.{counted}
use Rattle.plan.specs.Laws.{TableLaws, CostLaws}
use Rattle.command.specs.Goal.{Masks, guard_masks, met, allowed}
use Rattle.command.specs.Attainable.{groups}
use Rattle.command.specs.Covered.{Attains, Covered}
use Rattle.command.specs.Next.{distance_to, target_of}
use Rattle.command.proofs.Facts
use Rattle.command.proofs.Facts.{Sound}
use Rattle.command.proofs.Following.{needs_of}
use Rattle.command.proofs.Safe.{SafeLaws}
use Rattle.command.proofs.Sends
use Rattle.command.proofs.Heading.{Heading, usable-counted}
use Rattle.command.proofs.Sends.{AllMet, covered-below}
use Rattle.plan.proofs.Named.{named-of-move}
use Rattle.plan.specs.Reading.{groups_in}

-- the outside groups that the moves of group k name, those that count
abbrev pub named : Model → List ℕ → (ℕ → Bool) → ℕ → List ℕ
named m plan counts k = named_outside m (groups m plan) k (counted m plan counts k)

module _ (m : Model) (plan : List ℕ) where
  -- of the groups below g, a goal asks nothing of those outside its scope
  abbrev pub Scoped : Masks → List ℕ → ℕ → Type 0
  Scoped masks scope g = (a q : ℕ) → a < g → (Memᴰ a scope → ⊥) → allowed m (groups m plan) masks a q ≡ true

module _ (m : Model) (plan : List ℕ) (counts : ℕ → Bool) (cost : ℕ → ℕ) where
  unfoldable pub outside_cost : ℕ → ℕ
  outside_cost k = sum (map cost (named m plan counts k))

  -- A goal and its scope, the groups that it may ask something of. An unmet group takes its later steps with all that
  -- they may need, the first one with what it needs now, and leaves all lower groups of the scope to be done once more.
  unfoldable pub fall : List ℕ → Masks → List ℕ → ℕ → ℕ
  fall state masks scope zero = 0
  fall state masks scope (suc k) =
      let below = fall state masks scope k in
      let needs = fall state (needs_of m plan state masks k) (named m plan counts k) k in
      let steps = distance_to m plan state k (target_of m plan state masks k) - 1 in
      let here = steps * (1 + outside_cost k) + suc (needs + sum_below cost k scope) in
      cond (met (groups m plan) masks state k) below here

  module _ (state : List ℕ) (masks : Masks) (scope : List ℕ) (k : ℕ) where
    pub fall-met : met (groups m plan) masks state k ≡ true
        → fall state masks scope (suc k) ≡ fall state masks scope k
    unfolding fall
    fall-met e = rw e

    pub fall-unmet : met (groups m plan) masks state k ≡ false
        → fall state masks scope (suc k)
        ≡ (distance_to m plan state k (target_of m plan state masks k) - 1) * (1 + outside_cost k)
        + suc (fall state (needs_of m plan state masks k) (named m plan counts k) k + sum_below cost k scope)
    unfolding fall
    fall-unmet e = rw e

  pub fall-none : (state : List ℕ) (masks : Masks) (scope : List ℕ) → fall state masks scope 0 ≡ 0
  unfolding fall
  fall-none state masks scope = refl

  pub fall-zero : (state : List ℕ) (masks : Masks) (scope : List ℕ) (g : ℕ) → AllMet m plan state masks g
      → fall state masks scope g ≡ 0
  fall-zero state masks scope zero h = fall-none state masks scope
  fall-zero state masks scope (suc k) h =
      fall-met state masks scope k (h k (omega arith)) ∙ fall-zero state masks scope k (λ a l. h a (omega arith))

  pub fall-heading : (Usable : ℕ → Type 0) (state : List ℕ) (masks : Masks) (scope : List ℕ) (k : ℕ)
      → met (groups m plan) masks state k ≡ false → (h : Heading m plan Usable state masks k)
      → fall state masks scope (suc k)
      ≡ h.later * (1 + outside_cost k)
      + suc (fall state (needs_of m plan state masks k) (named m plan counts k) k + sum_below cost k scope)
  fall-heading Usable state masks scope k unmet h =
      let e : distance_to m plan state k (target_of m plan state masks k) - 1 ≡ h.later = omega (arith, h.far) in
      rw (← e) (fall-unmet state masks scope k unmet)

  pub named-cost : (k : ℕ) → sum_below cost k (named m plan counts k) ≤ outside_cost k
  unfolding outside_cost
  named-cost k = sum_below-le cost k (named m plan counts k)

-- steps of 1 + c each, the last one with at most c for its needs
pub steps-fit : (later c needs : ℕ) {l : ℕ} → needs ≤ c → later < l → later * (1 + c) + suc needs ≤ l * (1 + c)
steps-fit later c needs {l} h i = omega (arith, suc-mul later (1 + c), mul-le-mul_right (1 + c) i)

-- so much is left at most, if the needs of this step take no more than all that its group names
pub fall-at-most : (m : Model) (plan : List ℕ) (counts : ℕ → Bool) (cost : ℕ → ℕ) (Usable : ℕ → Type 0) (state : List ℕ) (masks : Masks)
    (scope : List ℕ) (k l : ℕ) → met (groups m plan) masks state k ≡ false → (h : Heading m plan Usable state masks k)
    → fall m plan counts cost state (needs_of m plan state masks k) (named m plan counts k) k ≤ outside_cost m plan counts cost k → h.later < l
    → fall m plan counts cost state masks scope (suc k) ≤ l * (1 + outside_cost m plan counts cost k) + sum_below cost k scope
fall-at-most m plan counts cost Usable state masks scope k l u h needs less =
    omega (arith, fall-heading m plan counts cost Usable state masks scope k u h, steps-fit h.later _ _ needs less)

module _ {m : Model} {plan : List ℕ} {counts : ℕ → Bool} {Usable : ℕ → Type 0} {longest : ℕ → ℕ} (valid : Valid m)
    (tables : TableLaws m plan counts Usable longest) where
  pub needs-scoped : (k v : ℕ) → Memᴰ v (moves_of m (groups m plan) k) → Usable v
      → Scoped m plan (guard_masks m (groups m plan) k (move_at m v)) (named m plan counts k) k
  needs-scoped k v member usable a q h n =
      Facts.needs-free m valid plan tables.shaped k v member a q
      (λ i. n (named-of-move m (groups_in m plan) k (usable-counted valid tables k member usable) i))

  unmet-scoped : {state : List ℕ} → Sound m state → (masks : Masks) (scope : List ℕ) (k : ℕ)
      → Scoped m plan masks scope (suc k) → met (groups m plan) masks state k ≡ false → Memᴰ k scope
  unmet-scoped {state} sound masks scope k s u =
      ⊎_elim (λ i. i)
      (λ n. absurd (true-false (Facts.met-allowed m valid plan tables.shaped state sound masks k
      ∙ s k _ (omega arith) n) u))
      (mem-or-not k scope)

cost-outside : {m : Model} {plan : List ℕ} (counts : ℕ → Bool) {longest cost : ℕ → ℕ}
    → CostLaws m plan (counted m plan counts) longest cost → (k : ℕ)
    → k < group_count (groups m plan) → cost k ≡ longest k * (1 + outside_cost m plan counts cost k)
unfolding outside_cost
cost-outside counts costs k h = costs.cost-is k h

module _ {m : Model} {plan : List ℕ} {counts : ℕ → Bool} {Usable : ℕ → Type 0} {longest cost : ℕ → ℕ} (valid : Valid m)
    (tables : TableLaws m plan counts Usable longest) (costs : CostLaws m plan (counted m plan counts) longest cost)
    {state : List ℕ} (sound : Sound m state) where
  heading-bounded : (masks : Masks) (scope : List ℕ) (k : ℕ) → k < group_count (groups m plan)
      → Heading m plan Usable state masks k → met (groups m plan) masks state k ≡ false → Memᴰ k scope
      → fall m plan counts cost state (needs_of m plan state masks k) (named m plan counts k) k ≤ outside_cost m plan counts cost k
      → fall m plan counts cost state masks scope (suc k) ≤ sum_below cost (suc k) scope
  heading-bounded masks scope k le h u i needs =
      let here = Facts.present-below m valid plan tables.shaped state sound k in
      let far = tables.at-most-longest k _ _ le here h.end_below (omega (arith, h.far)) in
      let l : h.later < longest k = omega (arith, h.far) in
      let most = fall-at-most m plan counts cost Usable state masks scope k (longest k) u h needs l in
      omega (arith, cost-outside counts costs k le, sum_below-mem cost i)

module _ {m : Model} {plan : List ℕ} {counts : ℕ → Bool} {Usable : ℕ → Type 0} {longest cost : ℕ → ℕ} (valid : Valid m)
    (tables : TableLaws m plan counts Usable longest) {S : Masks → ℕ → ℕ → Type 0} (safe : SafeLaws m plan Usable S)
    (costs : CostLaws m plan (counted m plan counts) longest cost)
    {state : List ℕ} (sound : Sound m state) where
  pub fall-bounded : (g : ℕ) → g ≤ group_count (groups m plan) → (masks : Masks) (scope : List ℕ)
      → Scoped m plan masks scope g → Covered m plan counts (Attains m plan) S masks state g
      → fall m plan counts cost state masks scope g ≤ sum_below cost g scope
  fall-bounded zero le masks scope s c = omega (arith, fall-none m plan counts cost state masks scope)
  fall-bounded (suc k) le masks scope s c =
      by_cases (met (groups m plan) masks state k)
      (λ e. omega (
        arith,
        fall-met m plan counts cost state masks scope k e,
        sum_below-up cost k scope,
        fall-bounded k (omega arith) masks scope (λ a q h. s a q (omega arith)) (covered-below c),
      ))
      (λ u.
      let h = Sends.covered-heading valid tables sound masks k le u c in
      let covered = Sends.heading-needs-covered valid tables safe sound masks k h u c in
      let needs = fall-bounded k (omega arith) _ (named m plan counts k) (needs-scoped valid tables k _ h.member h.usable) covered in
      heading-bounded valid tables costs sound masks scope k le h u (unmet-scoped valid tables sound masks scope k s u)
      (le_trans needs (named-cost m plan counts cost k)))
