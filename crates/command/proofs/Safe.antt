-- 18 of one group, as arrival uses it: three laws of a relation between a goal, a group and its mode. The modes from which
-- whatever is reached has a route to an allowed mode have them.
-- Assumes nothing.
use Prim.Native.Nat.{ℕ, ◌<◌}
use mathlib.Core.Path.{◌≡◌, ◌∙◌}
use mathlib.Core.Logic.{⊎_elim}
use mathlib.Core.List.{List, [], ◌∷◌, Memᴰ}
use mathlib.Core.Bool.{true}
use native.Mathlib.Omega.{arith}
use Rattle.common.proofs.Least.{mem-or-not}
use Rattle.sheet.specs.Model.{Model, move_at}
use Rattle.sheet.specs.Valid.{Valid}
use Rattle.plan.specs.Groups.{group_count, moves_of, named_outside}
use Rattle.plan.specs.Modes.{size, live_mode}
use Rattle.plan.specs.Usable.{leads, end_mode}
use Rattle.plan.specs.Reading.{groups_in}
use Rattle.plan.specs.Shown.{usable_in}
use Rattle.plan.specs.Laws.{TableLaws, RouteLaws}
use Rattle.plan.proofs.Named.{moves-below, moves-group}
use Rattle.plan.proofs.Shown.{always-met}
use Rattle.plan.proofs.Steps.{end_mode-below}
use Rattle.command.specs.Goal.{Masks, guard_masks}
use Rattle.command.specs.Attainable.{groups}
use Rattle.command.specs.Covered.{Attains, Safe}
use Rattle.command.proofs.Facts

pub record SafeLaws (m : Model) (plan : List ℕ) (Usable : ℕ → Type 0) (S : Masks → ℕ → ℕ → Type 0) : Type 0 where
  -- a safe mode has a route to an allowed mode
  pub safe-attains : (masks : Masks) (a p : ℕ) → a < group_count (groups m plan) → p < size m (groups m plan) a
      → S masks a p → Attains m plan masks a p
  -- a usable move leads from a safe mode to a safe one
  pub safe-after : (masks : Masks) (k v p : ℕ) → Memᴰ v (moves_of m (groups m plan) k) → Usable v
      → p < size m (groups m plan) k → leads m (groups m plan) k (move_at m v) p ≡ true → S masks k p
      → S masks k (end_mode m (groups m plan) k (move_at m v) p)
  -- the needs of a usable move are safe where a lower group is live
  pub safe-of-live : (k v a p : ℕ) → Memᴰ v (moves_of m (groups m plan) k) → Usable v
      → a < k → p < size m (groups m plan) a → live_mode m (groups m plan) a p ≡ true
      → S (guard_masks m (groups m plan) k (move_at m v)) a p

module _ {m : Model} {plan : List ℕ} {Usable : ℕ → Type 0} {longest : ℕ → ℕ} (valid : Valid m)
    (tables : TableLaws m plan (usable_in m plan) Usable longest) (routes : RouteLaws m plan Usable) where
  move-below : {k v : ℕ} → Memᴰ v (moves_of m (groups m plan) k) → k < group_count (groups m plan)
  move-below {k} {v} member = Facts.move-below m valid plan tables.shaped k v member

  keeps-safe : (masks : Masks) (k v p : ℕ) → Memᴰ v (moves_of m (groups m plan) k) → Usable v
      → p < size m (groups m plan) k → leads m (groups m plan) k (move_at m v) p ≡ true → Safe m plan masks k p
      → Safe m plan masks k (end_mode m (groups m plan) k (move_at m v) p)
  keeps-safe masks k v p member usable below leading safe =
      let n = Facts.groups-length m valid plan tables.shaped in
      let there = end_mode-below m valid (groups m plan) n k member below leading in
      let first = routes.move-connects k p v (move-below member) below member usable leading in
      record {
        attains-from = λ q h c.
            safe.attains-from q h (routes.connects-compose k p _ q (move-below member) below there h first c);
      }

  -- the needs on a lower group: every live mode has a route to an allowed one
  live-attains : (k v a q : ℕ) → Memᴰ v (moves_of m (groups m plan) k) → Usable v → a < k
      → q < size m (groups m plan) a → live_mode m (groups m plan) a q ≡ true
      → Attains m plan (guard_masks m (groups m plan) k (move_at m v)) a q
  live-attains k v a q member usable low below live =
      ⊎_elim
      (λ n.
      let named = rw (← moves-group m (groups_in m plan) k member) at n in
      let counts = tables.usable-counts v (moves-below m (groups_in m plan) k member) usable in
      let r = always-met m plan tables.byte-entries v a q counts named below live in
      let other : a ≡ k → ⊥ = λ e. omega arith in
      (r.0, r.1, Facts.needs-allowed m valid plan tables.shaped k v member a r.0 other ∙ r.2, r.3))
      (λ free. (
        q,
        below,
        Facts.needs-free m valid plan tables.shaped k v member a q free,
        omega (arith, tables.zero-self a q (omega (arith, move-below member)) below),
      ))
      (mem-or-not a (named_outside m (groups m plan) k (v ∷ [])))

  pub safe-laws : SafeLaws m plan Usable (Safe m plan)
  safe-laws =
      record {
        safe-attains = λ masks a p h below safe.
            safe.attains-from p below (omega (arith, tables.zero-self a p h below));
        safe-after = keeps-safe;
        safe-of-live = λ k v a p member usable low below live. record {
          attains-from = λ q h c. live-attains k v a q member usable low h
              (routes.connects-live a p q (omega (arith, move-below member)) below h c live);
        };
      }
