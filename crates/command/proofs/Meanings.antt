-- The words about states, goals and moves mean what they should: group modes of a state, what a goal allows, where a move
-- leads.
-- Assumes nothing.
use Prim.Native.Nat.{ℕ, ◌<◌}
use mathlib.Core.Path.{◌≡◌}
use mathlib.Core.Logic.{◌↔◌}
use mathlib.Core.List.{List, Memᴰ}
use mathlib.Core.Bool.{Bool, true, ◌&&◌}
use borrow.Author.Tests.{eqb-true, eqb-false, eq-eqb, ltb-true, lt-ltb}
use lib.Dec.{eqb, ltb}
use lib.ListN.{length, get_or}
use Rattle.common.specs.Lists.{all, any}
use Rattle.common.specs.Bits.{bit}
use Rattle.common.proofs.Bools.{by_cases, true-false, and_intro, and_left, and_right}
use Rattle.common.proofs.Lists.{all-at, all-intro, any-intro}
use Rattle.common.proofs.Members.{get_or-map-up_to}
use Rattle.common.proofs.Search.{find-holds, find-mem}
use Rattle.sheet.specs.Record.{byte}
use Rattle.sheet.specs.Model.{Guard, Model, machine_count, mode_count, move_count, move_at, is_live_mode, guard}
use Rattle.sheet.specs.Valid.{Valid}
use Rattle.plan.specs.Groups.{Grouping, group_of, members}
use Rattle.plan.specs.Modes.{mode_in}
use Rattle.plan.specs.Meaning.{Belongs}
use Rattle.plan.specs.Reading.{groups_in, well_shaped}
use Rattle.plan.proofs.Words.{members-mean}
use Rattle.plan.proofs.Steps.{end_mode-below, end_mode-to, end_mode-others}
use Rattle.command.specs.State.{mode_of, untagged}
use Rattle.command.specs.Goal.{any_mode, goal_masks, guard_masks, met, allowed}
use Rattle.command.specs.Attainable.{live_group}
use Rattle.command.specs.Meaning.{StatesRight, GoalsRight, MovesRight}
use Rattle.command.proofs.Shape.{sound-state, groups-length}
use Rattle.command.proofs.Goals.{present-below, mode-present}
use Rattle.command.proofs.Guards.{full-byte, find-guard, mask-inside, mask-outside, mask-free}

module _ (m : Model) (valid : Valid m) (plan : List ℕ) (shaped : well_shaped m plan ≡ true) where
  abbrev own : Grouping
  own = groups_in m plan

  belongs : (i k : ℕ) → Memᴰ i (members (groups_in m plan) k) ↔ Belongs m (groups_in m plan) i k
  belongs = members-mean m own (groups-length m valid plan shaped)

  -- what holds of each member of a group holds of each machine that belongs to it, and the other way round
  each-machine : (p : ℕ → Bool) (k : ℕ)
      → (all p (members (groups_in m plan) k) ≡ true) ↔ ((i : ℕ) → Belongs m (groups_in m plan) i k → p i ≡ true)
  each-machine p k = (
    λ h i b. all-at p h ((belongs i k).1 b),
    λ h. all-intro p (members own k) (λ i l. h i ((belongs i k).0 l)),
  )

  wished-by : (goal : List ℕ) (i mode : ℕ) → i < machine_count m → mode < mode_count m i
      → (bit (get_or (goal_masks m goal) i 255) mode ≡ true) ↔ (i < length goal → bit (byte goal i) mode ≡ true)
  unfolding goal_masks
  wished-by goal i mode there has =
      rw (get_or-map-up_to _ any_mode there)
      (by_cases (ltb i (length goal))
      (λ t. rw t (λ b l. b, λ h. h (ltb-true _ _ t)))
      (λ f. rw f (λ b l. absurd (true-false (lt-ltb _ _ l) f), λ h. full-byte valid i mode there has)))

  needed-by : (k v i mode : ℕ) → v < move_count m → i < machine_count m → mode < mode_count m i
      → (bit (get_or (guard_masks m (groups_in m plan) k (move_at m v)) i 255) mode ≡ true)
      ↔ ((g : Guard) → Memᴰ g (move_at m v).guards → g.machine ≡ i → (group_of (groups_in m plan) i ≡ k → ⊥)
      → bit g.mask mode ≡ true)
  needed-by k v i mode listed there has =
      let guards = (move_at m v).guards in
      by_cases (eqb (group_of own i) k)
      (λ t.
      let inside = eqb-true _ _ t in
      rw (mask-inside m own k (move_at m v) i there inside)
      (λ b g l e n. absurd (n inside), λ h. full-byte valid i mode there has))
      (λ f.
      let outside = eqb-false _ _ f in
      by_cases (any (λ g. eqb g.machine i) guards)
      (λ some.
      let first = guard i any_mode in
      rw (mask-outside m own k (move_at m v) i there outside) (
        λ b g l e n. rw (rw e at (find-guard (valid.moves-valid v listed) first l)) at b,
        λ h. h _ (find-mem _ guards first some) (eqb-true _ _ (find-holds _ guards first some)) outside,
      ))
      (λ none. rw (mask-free m own k (move_at m v) i there outside none) (
        λ b g l e n. absurd (true-false (any-intro _ l (eq-eqb _ _ e)) none),
        λ h. full-byte valid i mode there has,
      )))

pub states-right : StatesRight
unfolding live_group met
states-right m plan state valid shaped passes =
    let sound = sound-state m state passes in
    record {
      below = present-below m valid plan shaped state sound;
      modes = λ k i b. mode-present m valid plan shaped state sound k i ((belongs m valid plan shaped i k).1 b);
      live = λ k.
          let each = each-machine m valid plan shaped (λ i. is_live_mode m i (mode_of state i) && untagged state i) k in (
            λ l i b.
                let both = each.0 l i b in
                (and_left _ _ both, eqb-true _ _ (and_right (is_live_mode m i (mode_of state i)) _ both)),
            λ h. each.1 (λ i b. and_intro (h i b).0 (eq-eqb _ _ (h i b).1)),
          );
      met_by = λ masks. each-machine m valid plan shaped (λ i. bit (get_or masks i 255) (mode_of state i));
    }

pub goals-right : GoalsRight
unfolding allowed
goals-right m plan valid shaped =
    record {
      allowed-by = λ masks k q.
          each-machine m valid plan shaped (λ i. bit (get_or masks i 255) (mode_in m (groups_in m plan) k q i)) k;
      wished = wished-by m valid plan shaped;
      needed = needed-by m valid plan shaped;
    }

pub moves-right : MovesRight
moves-right m plan k v p valid shaped member below leading =
    let own = groups_in m plan in
    let n = groups-length m valid plan shaped in
    record {
      below = end_mode-below m valid own n k member below leading;
      mover = end_mode-to m valid own n k member below leading;
      others = end_mode-others m valid own n k member below leading;
    }
