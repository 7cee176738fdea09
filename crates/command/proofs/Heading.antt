-- The entry of an unmet group toward its target, and its first move; the needs of a usable move are covered.
-- Assumes nothing.
use Prim.Native.Nat.{ℕ, zero, suc, ◌≤◌, ◌<◌}
use mathlib.Core.Path.{◌≡◌, refl, ap, ◌∙◌}
use mathlib.Core.List.{List, Memᴰ}
use mathlib.Core.Bool.{Bool, true, false}
use native.Mathlib.Omega.{arith}
use Rattle.common.proofs.Bools.{true-false}
use Rattle.sheet.specs.Model.{Model, move_at}
use Rattle.sheet.specs.Valid.{Valid}
use Rattle.plan.specs.Groups.{group_count, moves_of}
use Rattle.plan.specs.Modes.{size}
use Rattle.plan.specs.Usable.{leads, end_mode}
use Rattle.plan.specs.Reading.{entry_at}
use Rattle.plan.specs.Laws.{IsDistance, TableLaws}
use Rattle.command.specs.Goal.{Masks, guard_masks, met, allowed}
use Rattle.command.specs.Ancestors.{upstream_in}
use Rattle.command.specs.Attainable.{groups, present, live_group}
use Rattle.command.specs.Covered.{Covered, Attains}
use Rattle.command.specs.Next.{target_of, unfit_with}
use Rattle.command.proofs.Facts
use Rattle.command.proofs.Facts.{Sound}
use Rattle.command.proofs.Safe.{SafeLaws}
use Rattle.command.proofs.Following
use Rattle.command.proofs.Following.{first_move}
use Rattle.plan.proofs.Named.{moves-below, moves-group}
use Rattle.plan.proofs.Counted.{moves-counted}
use Rattle.plan.specs.Reading.{groups_in, counted}

-- a usable move is one of those that count
pub usable-counted : {m : Model} {plan : List ℕ} {counts : ℕ → Bool} {Usable : ℕ → Type 0} {longest : ℕ → ℕ} → Valid m
    → TableLaws m plan counts Usable longest → (k : ℕ) {v : ℕ} → Memᴰ v (moves_of m (groups m plan) k) → Usable v
    → Memᴰ v (counted m plan counts k)
usable-counted {m} {plan} {counts} valid tables k {v} member usable =
    moves-counted m plan counts k member
    (tables.usable-counts v (moves-below m (groups_in m plan) k member) usable)

-- the groups upstream of k are live
abbrev pub UpstreamLive : Model → List ℕ → (ℕ → Bool) → List ℕ → ℕ → Type 0
UpstreamLive m plan counts state k = (a : ℕ) → upstream_in m plan counts k a ≡ true → live_group m plan state a ≡ true

module _ (m : Model) (plan : List ℕ) (Usable : ℕ → Type 0) (state : List ℕ) where
  -- the entry of group k toward its target: a route of `later` + 1 moves, and what is known of its first move
  pub record Heading (masks : Masks) (k : ℕ) : Type 0 where
    pub end_below : target_of m plan state masks k < size m (groups m plan) k
    pub end-allowed : allowed m (groups m plan) masks k (target_of m plan state masks k) ≡ true
    pub later : ℕ
    pub far : IsDistance m plan k (present m plan state k) (target_of m plan state masks k) (suc later)
    pub member : Memᴰ (first_move m plan state masks k) (moves_of m (groups m plan) k)
    pub usable : Usable (first_move m plan state masks k)
    pub leading : leads m (groups m plan) k (move_at m (first_move m plan state masks k)) (present m plan state k) ≡ true
    pub nearer :
        (entry_at m plan k (end_mode m (groups m plan) k (move_at m (first_move m plan state masks k)) (present m plan state k))
        (target_of m plan state masks k)).distance ≤ later

module _ {m : Model} {plan : List ℕ} {counts : ℕ → Bool} {Usable : ℕ → Type 0} {longest : ℕ → ℕ} (valid : Valid m)
    (tables : TableLaws m plan counts Usable longest) {state : List ℕ} (sound : Sound m state) where
  abbrev N : ℕ
  N = group_count (groups m plan)

  pub heading : (masks : Masks) (k : ℕ) → k < N → met (groups m plan) masks state k ≡ false
      → Attains m plan masks k (present m plan state k) → Heading m plan Usable state masks k
  heading masks k below unmet a =
      go (entry_at m plan k here (target_of m plan state masks k)).distance refl
    where
      here : ℕ
      here = present m plan state k

      t : ℕ
      t = target_of m plan state masks k

      t-below : t < size m (groups m plan) k
      t-below = Following.target-size m plan state masks k a.0 a.1 a.2

      t-allowed : allowed m (groups m plan) masks k t ≡ true
      t-allowed = Following.target-allowed m plan state masks k a.0 a.1 a.2

      here-below : here < size m (groups m plan) k
      here-below = Facts.present-below m valid plan tables.shaped state sound k

      go : (d : ℕ) → (entry_at m plan k here t).distance ≡ d → Heading m plan Usable state masks k
      go zero e =
          let q = tables.self-zero k here t below here-below t-below e in
          let same = Facts.met-allowed m valid plan tables.shaped state sound masks k in
          absurd (true-false (same ∙ ap (allowed m (groups m plan) masks k) q ∙ t-allowed) unmet)
      go (suc d) e =
          let least = Following.target-least m plan state masks k a.0 a.1 a.2 in
          let far : IsDistance m plan k here t (suc d) = (e, omega (arith, a.3)) in
          let f = tables.first-move k here t d below here-below t-below far in
          record {
            end_below = t-below;
            end-allowed = t-allowed;
            later = d;
            far = far;
            member = f.0;
            usable = f.1;
            leading = f.2;
            nearer = f.3;
          }

  -- an entry toward the target is fit to be followed
  pub heading-fits : (masks : Masks) (k : ℕ) → Heading m plan Usable state masks k
      → unfit_with m plan state counts k (entry_at m plan k (present m plan state k) (target_of m plan state masks k)) ≡ false
  heading-fits masks k h =
      Following.fit m plan state counts k (entry_at m plan k (present m plan state k) (target_of m plan state masks k))
      (omega (arith, h.far))
      (moves-below m (groups_in m plan) k h.member)
      (moves-group m (groups_in m plan) k h.member)
      (Facts.leading-from m valid plan tables.shaped k _ h.member state sound h.leading)
      (Facts.leading-inside m valid plan tables.shaped k _ h.member state sound h.leading)
      (tables.usable-counts _ (moves-below m (groups_in m plan) k h.member) h.usable)

  -- the needs of a move of group k, taken as a goal
  module _ (k v : ℕ) (member : Memᴰ v (moves_of m (groups m plan) k)) where
    abbrev needs : Masks
    needs = guard_masks m (groups m plan) k (move_at m v)

    k-below : k < N
    k-below = Facts.move-below m valid plan tables.shaped k v member

    -- a usable move counts: a group that its needs leave unmet is upstream of its own
    module _ (usable : Usable v) where
      pub unmet-up : (a : ℕ) → met (groups m plan) needs state a ≡ false → upstream_in m plan counts k a ≡ true
      unmet-up =
          Facts.unmet-upstream m valid plan tables.shaped k v member state sound counts
          (usable-counted valid tables k member usable)

      unmet-up-up : (a b : ℕ) → met (groups m plan) needs state a ≡ false → upstream_in m plan counts a b ≡ true
          → upstream_in m plan counts k b ≡ true
      unmet-up-up a b unmet u = Facts.upstream-trans m valid plan counts tables.shaped k a b (unmet-up a unmet) u

      -- and its needs are covered
      module _ {S : Masks → ℕ → ℕ → Type 0} (safe : SafeLaws m plan Usable S) (live : UpstreamLive m plan counts state k) where
        up-safe : (a : ℕ) → upstream_in m plan counts k a ≡ true → S needs a (present m plan state a)
        up-safe a u =
            safe.safe-of-live k v a _ member usable (Facts.upstream-below m valid plan counts tables.shaped k a u)
            (Facts.present-below m valid plan tables.shaped state sound a)
            (Facts.live-mode m valid plan tables.shaped state sound a (live a u))

        pub needs-covered : Covered m plan counts (Attains m plan) S needs state k
        needs-covered =
            record {
              itself-live = λ a h unmet. live a (unmet-up a unmet);
              upstream-live = λ a b h unmet u. live b (unmet-up-up a b unmet u);
              attains = λ a h unmet. safe.safe-attains needs a _ (omega (arith, k-below))
                  (Facts.present-below m valid plan tables.shaped state sound a) (up-safe a (unmet-up a unmet));
              no-dead-end = λ a b h unmet u. up-safe b (unmet-up-up a b unmet u);
            }
