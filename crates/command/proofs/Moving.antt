-- The move that is sent: it acts, it moves the highest unmet group or one upstream of it, and what it leaves.
-- Assumes nothing.
use Prim.Native.Nat.{ℕ, ◌<◌}
use mathlib.Core.Path.{◌≡◌, refl}
use mathlib.Core.Logic.{◌⊎◌, inl, inr, ⊎_elim}
use mathlib.Core.List.{List, Memᴰ}
use mathlib.Core.Bool.{Bool, true, false}
use native.Mathlib.Omega.{arith}
use Rattle.common.proofs.Bools.{true-false}
use Rattle.common.proofs.Least.{last-or-below}
use Rattle.sheet.specs.Model.{Model, mode_count, is_live_mode, move_at}
use Rattle.sheet.specs.Valid.{Valid}
use Rattle.plan.specs.Groups.{moves_of}
use Rattle.plan.specs.Usable.{leads, landing, end_mode}
use Rattle.plan.specs.Laws.{TableLaws}
use Rattle.plan.proofs.Named.{moves-below}
use Rattle.command.specs.State.{with_mode}
use Rattle.command.specs.Goal.{Masks, met}
use Rattle.command.specs.Ancestors.{upstream_in}
use Rattle.command.specs.Attainable.{groups, present, live_group}
use Rattle.command.specs.Covered.{Attains}
use Rattle.command.specs.Next.{holds_outside}
use Rattle.command.proofs.Facts
use Rattle.command.proofs.Facts.{Sound}
use Rattle.command.proofs.Heading
use Rattle.command.proofs.Heading.{Heading}
use Rattle.command.proofs.Sends.{Sends, lower, own, prepares}

-- move v of group j is usable, leads from the group's present mode, and its needs hold
pub record Acting (m : Model) (plan : List ℕ) (Usable : ℕ → Type 0) (state : List ℕ) (j v : ℕ) : Type 0 where
  pub member : Memᴰ v (moves_of m (groups m plan) j)
  pub usable : Usable v
  pub leading : leads m (groups m plan) j (move_at m v) (present m plan state j) ≡ true
  pub outside : holds_outside m plan state j (move_at m v) ≡ true

module _ (m : Model) (plan state : List ℕ) where
  -- the highest unmet group below g: it is j, or j is upstream of it
  pub record Highest (counts : ℕ → Bool) (masks : Masks) (g j : ℕ) : Type 0 where
    pub top : ℕ
    pub top_below : top < g
    pub top-unmet : met (groups m plan) masks state top ≡ false
    pub above-met : (a : ℕ) → top < a → a < g → met (groups m plan) masks state a ≡ true
    pub way : (j ≡ top) ⊎ (upstream_in m plan counts top j ≡ true)

  -- the state that a command leaves: group j is in mode p
  pub record Moves (state' : List ℕ) (j p : ℕ) : Type 0 where
    pub sound : Sound m state'
    pub there : present m plan state' j ≡ p
    pub elsewhere : (a : ℕ) → (a ≡ j → ⊥) → present m plan state' a ≡ present m plan state a
    pub live : (a : ℕ) → live_group m plan state a ≡ true → live_group m plan state' a ≡ true

  -- the state that move v of group j leaves
  abbrev pub MovesBy : List ℕ → ℕ → ℕ → Type 0
  MovesBy state' j v = Moves state' j (end_mode m (groups m plan) j (move_at m v) (present m plan state j))

module _ {m : Model} {plan : List ℕ} {Usable : ℕ → Type 0} {state : List ℕ} where
  pub sends-below : {masks : Masks} {g j v : ℕ} → Sends m plan Usable state masks g j v → j < g
  sends-below (lower e s) = omega (arith, sends-below s)
  sends-below (own e h i o) = omega arith
  sends-below (prepares e h s) = omega (arith, sends-below s)

  pub sends-acting : {masks : Masks} {g j v : ℕ} → Sends m plan Usable state masks g j v → Acting m plan Usable state j v
  sends-acting (lower e s) = sends-acting s
  sends-acting (own e h i o) =
      record { member = rw i h.member; usable = rw i h.usable; leading = rw i h.leading; outside = o }
  sends-acting (prepares e h s) = sends-acting s

module _ {m : Model} {plan : List ℕ} {counts : ℕ → Bool} {Usable : ℕ → Type 0} {longest : ℕ → ℕ} (valid : Valid m)
    (tables : TableLaws m plan counts Usable longest) {state : List ℕ} (sound : Sound m state) where
  pub sends-highest : {masks : Masks} {g j v : ℕ} → Sends m plan Usable state masks g j v
      → Highest m plan state counts masks g j
  sends-highest {j} {v} (lower {k} e s) =
      let r = sends-highest s in
      record {
        top = r.top;
        top_below = omega (arith, r.top_below);
        top-unmet = r.top-unmet;
        above-met = λ a h l. ⊎_elim (λ i. rw i e) (λ i. r.above-met a h i) (last-or-below l);
        way = r.way;
      }
  sends-highest (own {masks} {k} {v} e h i o) =
      record {
        top = k;
        top_below = omega arith;
        top-unmet = e;
        above-met = λ a l b. absurd (let f : ⊥ = omega arith in f);
        way = inl refl;
      }
  sends-highest (prepares {masks} {k} {j} {v} e h s) =
      let r = sends-highest s in
      let u = Heading.unmet-up valid tables sound k _ h.member h.usable r.top r.top-unmet in
      let on = Facts.upstream-trans m valid plan counts tables.shaped k in
      record {
        top = k;
        top_below = omega arith;
        top-unmet = e;
        above-met = λ a l b. absurd (let f : ⊥ = omega arith in f);
        way = inr (⊎_elim (λ e. rw e u) (λ w. on r.top j u w) r.way);
      }

  -- a move of the highest unmet group itself leaves a route to an allowed mode
  pub sends-attains : {masks : Masks} {g j v : ℕ} → Sends m plan Usable state masks g j v
      → (h : Highest m plan state counts masks g j) → j ≡ h.top
      → Attains m plan masks j (end_mode m (groups m plan) j (move_at m v) (present m plan state j))
  sends-attains (lower {masks} {k} e s) h i =
      let below : h.top < k = ⊎_elim (λ l. absurd (true-false e (rw l at h.top-unmet))) (λ l. l) (last-or-below h.top_below) in
      sends-attains s
      (record {
        top = h.top;
        top_below = below;
        top-unmet = h.top-unmet;
        above-met = λ a l b. h.above-met a l (omega arith);
        way = h.way;
      }) i
  sends-attains (own {masks} {k} {v} e a w o) h i = rw w (_, a.end_below, a.end-allowed, omega (arith, a.nearer, a.far))
  sends-attains (prepares {masks} {k} {j} {v} e a s) h i =
      let low : h.top < k = omega (arith, sends-below s) in
      absurd (true-false (h.above-met k low (omega arith)) e)

  module _ {j v : ℕ} (a : Acting m plan Usable state j v) where
    -- its machine may end in any live mode that it has
    pub acting-lands : (mode : ℕ) → mode < mode_count m (move_at m v).machine → is_live_mode m (move_at m v).machine mode ≡ true
        → Moves m plan state (with_mode state (move_at m v).machine mode) j
        (landing m (groups m plan) j (move_at m v) mode (present m plan state j))
    acting-lands mode has live =
        let shaped = tables.shaped in
        record {
          sound = Facts.applied-sound m valid plan shaped j v a.member state sound mode has;
          there = Facts.applied-landing m valid plan shaped j v a.member state sound a.leading mode has;
          elsewhere = Facts.applied-elsewhere m valid plan shaped j v a.member state sound mode has;
          live = Facts.applied-live m valid plan shaped j v a.member state sound mode live;
        }

    pub acting-moves : MovesBy m plan state (with_mode state (move_at m v).machine (move_at m v).to) j v
    unfolding end_mode
    acting-moves =
        let own = valid.moves-valid v (moves-below m (groups m plan) j a.member) in
        acting-lands (move_at m v).to own.to-present own.to-live
