-- A tag on a machine that is of no unmet group, and of none that is upstream of one, hinders nothing.
-- Assumes nothing.
use Prim.Native.Nat.{ℕ, ◌<◌}
use mathlib.Core.Path.{◌≡◌, sym, ap, ap₂, fun_ext, ◌∙◌}
use mathlib.Core.List.{List, ◌++◌}
use mathlib.Core.Bool.{false, not, ◌&&◌, ◌||◌}
use native.Mathlib.Omega.{arith}
use lib.Dec.{eqb}
use lib.Seq.{ext_get_or}
use Rattle.common.specs.Reply.{unless}
use Rattle.common.proofs.Bools.{by_cases}
use Rattle.common.proofs.Lists.{all-cong}
use Rattle.common.proofs.Sums.{flat_map-cong}
use Rattle.sheet.specs.Model.{Model, machine_count}
use Rattle.plan.specs.Groups.{group_of, group_count, members}
use Rattle.plan.specs.Reading.{groups_in, well_shaped}
use Rattle.plan.specs.Shown.{usable_in}
use Rattle.plan.proofs.Modes.{member_of}
use Rattle.command.specs.State.{modes, mode_of, tag_of}
use Rattle.command.specs.Goal.{goal_faults}
use Rattle.command.specs.Goal.{Masks, goal_masks, met}
use Rattle.common.specs.Lists.{down_to}
use Rattle.command.specs.Ancestors.{upstream_in}
use Rattle.command.specs.Attainable.{live_group, dead_end, group_faults, attain_faults, cover_faults}
use Rattle.command.specs.TurnedDown.{StateFits}
use Rattle.command.specs.Uncovered.{Concerns}
use Rattle.command.specs.Tags.{Concerned, TagsAside}
use Rattle.command.proofs.States.{length-modes}
use Rattle.command.proofs.Asking.{misshapen-reply}
use Rattle.command.proofs.Causes.{concern}
use Rattle.command.proofs.Highest.{down_to-below}
use Rattle.command.proofs.Tagless.{met-same, fulfil-same}
use Rattle.command.proofs.TurnedDown.{state-judged}

module _ (m : Model) (plan : List ℕ) (masks : Masks) (state other : List ℕ) (same : modes state ≡ modes other)
    (agree : (i : ℕ) → Concerned m plan masks state i → tag_of state i ≡ tag_of other i) where
  -- an unmet group, and one that concerns it
  module _ (k : ℕ) (below : k < group_count (groups_in m plan)) (unmet : met (groups_in m plan) masks state k ≡ false) where
    live_same : (a : ℕ) → Concerns m plan (usable_in m plan) state masks k a → live_group m plan state a ≡ live_group m plan other a
    unfolding live_group
    live_same a c =
        all-cong _ _ (members (groups_in m plan) a) (λ i l.
        let here : Concerns m plan (usable_in m plan) state masks k (group_of (groups_in m plan) i) = rw (member_of (groups_in m plan) a l) c in
        let tag = agree i (record { group = k; below = below; unmet = unmet; concerns = here }) in
        rw (same, tag))

    -- of 16
    hindered-same : (a : ℕ) → ((eqb a k || upstream_in m plan (usable_in m plan) k a) && not (live_group m plan state a))
        ≡ ((eqb a k || upstream_in m plan (usable_in m plan) k a) && not (live_group m plan other a))
    hindered-same a =
        by_cases (eqb a k || upstream_in m plan (usable_in m plan) k a)
        (λ t. rw t (ap not (live_same a (concern m plan (usable_in m plan) state masks k a t))))
        (λ f. rw f)

    faults-same : group_faults m plan (usable_in m plan) (dead_end m plan) state masks k
        ≡ group_faults m plan (usable_in m plan) (dead_end m plan) other masks k
    unfolding group_faults dead_end
    faults-same = rw (fun_ext hindered-same, same)

  attain-same : cover_faults m plan state masks ≡ cover_faults m plan other masks
  unfolding attain_faults
  attain-same =
      flat_map-cong _ _ (down_to (group_count (groups_in m plan))) (λ k l. by_cases (met (groups_in m plan) masks state k)
      (λ t. rw (t, sym (met-same m plan state other same masks k) ∙ t))
      (λ f. rw (f, sym (met-same m plan state other same masks k) ∙ f) (faults-same k (down_to-below _ l) f)))

-- states with the same modes have the same list of them
modes-same : (m : Model) (state other : List ℕ) → StateFits m state → StateFits m other
    → ((i : ℕ) → i < machine_count m → mode_of state i ≡ mode_of other i) → modes state ≡ modes other
modes-same m state other fits also agree =
    let long = length-modes state (machine_count m) fits.0 in
    ext_get_or 0 _ _ (long ∙ sym (length-modes other (machine_count m) also.0)) (λ i l. agree i (omega arith))

pub tags-aside : TagsAside
tags-aside sheet plan state other goal d parses fits also modes-agree agree =
    let m = d.model in
    let same = modes-same m state other fits also modes-agree in
    by_cases (well_shaped m plan)
    (λ shaped.
    state-judged sheet plan state goal d parses shaped fits
    ∙ ap₂ (λ later r. unless (goal_faults m goal ++ later) r)
    (attain-same m plan (goal_masks m goal) state other same agree)
    (fulfil-same m plan state other same (goal_masks m goal) (group_count (groups_in m plan)))
    ∙ sym (state-judged sheet plan other goal d parses shaped also))
    (λ f. misshapen-reply sheet plan state goal d parses f ∙ sym (misshapen-reply sheet plan other goal d parses f))
