-- Each command lowers the number that falls.
-- Assumes nothing.
use Prim.Native.Nat.{ℕ, suc, ◌+◌, ◌-◌, ◌*◌, ◌≤◌, ◌<◌}
use mathlib.Core.Path.{◌≡◌, sym, ap, subst, ◌∙◌}
use mathlib.Core.List.{List}
use mathlib.Core.Bool.{Bool, false}
use native.Mathlib.Omega.{arith}
use Rattle.common.proofs.Bools.{by_cases}
use Rattle.common.proofs.SumsBelow.{sum_below}
use Rattle.sheet.specs.Model.{Model, move_at}
use Rattle.sheet.specs.Valid.{Valid}
use Rattle.plan.specs.Groups.{group_count}
use Rattle.plan.specs.Usable.{end_mode}
use Rattle.plan.specs.Table.{Entry}
use Rattle.plan.specs.Reading.{entry_at}
use Rattle.plan.specs.Reading.{counted}
use Rattle.plan.specs.Laws.{TableLaws, CostLaws}
use Rattle.command.specs.Goal.{Masks, guard_masks, met}
use Rattle.command.specs.Attainable.{groups, present}
use Rattle.command.specs.Covered.{Attains, Covered}
use Rattle.command.specs.Next.{distance_to, target_of}
use Rattle.command.proofs.Facts
use Rattle.command.proofs.Facts.{Sound}
use Rattle.command.proofs.Following
use Rattle.command.proofs.Following.{first_move, needs_of}
use Rattle.command.proofs.Safe.{SafeLaws}
use Rattle.command.proofs.Heading
use Rattle.command.proofs.Heading.{Heading}
use Rattle.command.proofs.Sends
use Rattle.command.proofs.Sends.{Sends, lower, own, prepares, covered-below}
use Rattle.command.proofs.Moving.{MovesBy, sends-below}
use Rattle.command.proofs.Stays
use Rattle.command.proofs.Fall.{named, Scoped, outside_cost, fall, fall-met, fall-unmet, fall-heading}
use Rattle.command.proofs.Fall.{named-cost, fall-at-most, needs-scoped, fall-bounded}

-- a group in the same mode has the same number, but for what its first move needs
module _ (m : Model) (plan : List ℕ) (counts : ℕ → Bool) (state state' : List ℕ) (masks : Masks) (k : ℕ)
    (same : present m plan state' k ≡ present m plan state k) where
  fall-same : (cost : ℕ → ℕ) (scope : List ℕ) → met (groups m plan) masks state' k ≡ false
      → fall m plan counts cost state' masks scope (suc k)
      ≡ (distance_to m plan state k (target_of m plan state masks k) - 1) * (1 + outside_cost m plan counts cost k)
      + suc (fall m plan counts cost state' (needs_of m plan state masks k) (named m plan counts k) k + sum_below cost k scope)
  fall-same cost scope f =
      fall-unmet m plan counts cost state' masks scope k f
      ∙ ap (λ e. (e.distance - 1) * (1 + outside_cost m plan counts cost k) + suc (needs e + sum_below cost k scope))
      (Following.same-entry m plan state state' masks k same)
    where
      needs : Entry → ℕ
      needs e = fall m plan counts cost state' (guard_masks m (groups m plan) k (move_at m e.move)) (named m plan counts k) k

module _ {m : Model} {plan : List ℕ} {counts : ℕ → Bool} {Usable : ℕ → Type 0} {longest cost : ℕ → ℕ} (valid : Valid m)
    (tables : TableLaws m plan counts Usable longest) {S : Masks → ℕ → ℕ → Type 0} (safe : SafeLaws m plan Usable S)
    (costs : CostLaws m plan (counted m plan counts) longest cost)
    {state : List ℕ} (sound : Sound m state) (state' : List ℕ) where
  abbrev Falls : Masks → List ℕ → ℕ → Type 0
  Falls masks scope g = fall m plan counts cost state' masks scope g < fall m plan counts cost state masks scope g

  -- the needs of group k in the state now are covered, so they take no more than all that it names
  needs-now : (masks : Masks) (k : ℕ) → Sound m state' → Heading m plan Usable state' masks k
      → Covered m plan counts (Attains m plan) S masks state' (suc k) → met (groups m plan) masks state' k ≡ false
      → fall m plan counts cost state' (needs_of m plan state' masks k) (named m plan counts k) k ≤ outside_cost m plan counts cost k
  needs-now masks k s h c u =
      omega (
        arith,
        named-cost m plan counts cost k,
        fall-bounded valid tables safe costs s k
            (omega (arith, Facts.move-below m valid plan tables.shaped k _ h.member))
            (needs_of m plan state' masks k) (named m plan counts k)
            (needs-scoped valid tables k _ h.member h.usable)
            (Sends.heading-needs-covered valid tables safe s masks k h u c),
      )

  own-falls : (masks : Masks) (scope : List ℕ) (k v : ℕ) → k < group_count (groups m plan)
      → met (groups m plan) masks state k ≡ false → (h : Heading m plan Usable state masks k)
      → v ≡ first_move m plan state masks k → MovesBy m plan state state' k v
      → Scoped m plan masks scope (suc k) → Covered m plan counts (Attains m plan) S masks state' (suc k) → Falls masks scope (suc k)
  own-falls masks scope k v le u h e moves s c =
      by_cases (met (groups m plan) masks state' k)
      (λ t. omega (
        arith,
        fall-met m plan counts cost state' masks scope k t,
        before,
        fall-bounded valid tables safe costs moves.sound k (omega arith) masks scope
            (λ a q l. s a q (omega arith)) (covered-below c),
      ))
      (λ f.
      let h' = Sends.covered-heading valid tables moves.sound masks k le f c in
      let least = Following.target-least m plan state' masks k _ h.end_below h.end-allowed in
      let near : h'.later < h.later = omega (arith, h'.far, nearer) in
      omega (
        arith,
        before,
        fall-at-most m plan counts cost Usable state' masks scope k h.later f h'
            (needs-now masks k moves.sound h' c f) near,
      ))
    where
      nearer : distance_to m plan state' k (target_of m plan state masks k) ≤ h.later
      nearer =
          subst (λ p. (entry_at m plan k p (target_of m plan state masks k)).distance ≤ h.later)
          (sym (moves.there ∙ ap (λ w. end_mode m (groups m plan) k (move_at m w) (present m plan state k)) e)) h.nearer

      before : fall m plan counts cost state masks scope (suc k)
          ≡ h.later * (1 + outside_cost m plan counts cost k)
          + suc (fall m plan counts cost state (needs_of m plan state masks k) (named m plan counts k) k + sum_below cost k scope)
      before = fall-heading m plan counts cost Usable state masks scope k u h

  prepares-falls : (masks : Masks) (scope : List ℕ) (k : ℕ) → present m plan state' k ≡ present m plan state k
      → met (groups m plan) masks state k ≡ false → met (groups m plan) masks state' k ≡ false
      → Falls (needs_of m plan state masks k) (named m plan counts k) k → Falls masks scope (suc k)
  prepares-falls masks scope k same u f falls =
      let now = fall-same m plan counts state state' masks k same cost scope f in
      omega (arith, fall-unmet m plan counts cost state masks scope k u)

  -- each command lowers it by at least one
  pub fall-falls : {masks : Masks} {g j v : ℕ} → Sends m plan Usable state masks g j v → g ≤ group_count (groups m plan)
      → MovesBy m plan state state' j v → (scope : List ℕ) → Scoped m plan masks scope g
      → Covered m plan counts (Attains m plan) S masks state' g → Falls masks scope g
  fall-falls (lower {masks} {k} {j} {v} e s) le moves scope in_scope c =
      let n : k ≡ j → ⊥ = λ i. omega (arith, sends-below s) in
      let t = Stays.met-elsewhere valid tables.shaped sound moves masks k n ∙ e in
      omega (
        arith,
        fall-met m plan counts cost state masks scope k e,
        fall-met m plan counts cost state' masks scope k t,
        fall-falls s (omega arith) moves scope (λ a q h. in_scope a q (omega arith)) (covered-below c),
      )
  fall-falls (own {masks} {k} {v} u h e o) le moves scope in_scope c =
      own-falls masks scope k v le u h e moves in_scope c
  fall-falls (prepares {masks} {k} {j} {v} u h s) le moves scope in_scope c =
      let n : k ≡ j → ⊥ = λ i. omega (arith, sends-below s) in
      let f = Stays.met-elsewhere valid tables.shaped sound moves masks k n ∙ u in
      prepares-falls masks scope k (moves.elsewhere k n) u f
      (fall-falls s (omega arith) moves (named m plan counts k) (needs-scoped valid tables k _ h.member h.usable)
      (Heading.needs-covered valid tables moves.sound k _ h.member h.usable safe
      (λ a up. c.upstream-live k a (omega arith) f up)))
