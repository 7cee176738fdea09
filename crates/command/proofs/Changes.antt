-- One machine put in another mode: with one that it has, the state is sound, its group is shifted and every other group as
-- before; with a live one, every group that was live is live.
-- Assumes nothing.
use Prim.Native.Nat.{ℕ, ◌<◌}
use mathlib.Core.Path.{◌≡◌, ◌∙◌}
use mathlib.Core.List.{List, Memᴰ}
use mathlib.Core.Bool.{true}
use borrow.Author.Tests.{eqb-true, eqb-false}
use lib.Dec.{eqb}
use Rattle.common.proofs.Bools.{by_cases, and_intro, and_right}
use Rattle.common.proofs.Lists.{all-at, all-intro}
use Rattle.sheet.specs.Model.{Model, machine_count, mode_count, is_live_mode}
use Rattle.sheet.specs.Valid.{Valid}
use Rattle.plan.specs.Groups.{group_of, members}
use Rattle.plan.specs.Modes.{shifted}
use Rattle.plan.specs.Reading.{groups_in, well_shaped}
use Rattle.plan.proofs.Modes.{is_member, mode_number-set, mode_number-set-outside}
use Rattle.command.specs.State.{modes, mode_of, untagged, with_mode}
use Rattle.command.specs.Attainable.{present, live_group}
use Rattle.command.proofs.States.{modes-with_mode, length-modes, length-with_mode, mode-there, mode-elsewhere, tag-kept}
use Rattle.command.proofs.Shape.{Sound, groups-length}

module _ (m : Model) (state : List ℕ) (sound : Sound m state) (i mode : ℕ) (here : i < machine_count m) where
  pub changed-mode : mode_of (with_mode state i mode) i ≡ mode
  changed-mode = mode-there state i mode (machine_count m) sound.long here

  pub changed-live : is_live_mode m i mode ≡ true → (plan : List ℕ) (a : ℕ) → live_group m plan state a ≡ true
      → live_group m plan (with_mode state i mode) a ≡ true
  unfolding live_group
  changed-live live plan a l =
      all-intro _ (members (groups_in m plan) a) (λ j h. by_cases (eqb j i)
      (λ t.
      and_intro {a = is_live_mode m j (mode_of (with_mode state i mode) j)} (rw (eqb-true j i t, changed-mode) live) (kept-tag j h))
      (λ f. rw (mode-elsewhere state i mode j (eqb-false j i f), tag-kept state i mode j) (all-at _ l h)))
    where
      -- the tags are as before
      kept-tag : (j : ℕ) → Memᴰ j (members (groups_in m plan) a) → untagged (with_mode state i mode) j ≡ true
      kept-tag j h = rw (tag-kept state i mode j) (and_right (is_live_mode m j (mode_of state j)) _ (all-at _ l h))

  module _ (has : mode < mode_count m i) where
    pub changed-sound : Sound m (with_mode state i mode)
    changed-sound =
        record {
          long = length-with_mode state i mode ∙ sound.long;
          tags-fit = λ j h. rw (tag-kept state i mode j) (sound.tags-fit j h);
          fits = λ j h. by_cases (eqb j i)
              (λ t. rw (eqb-true j i t, changed-mode) has)
              (λ f. rw (mode-elsewhere state i mode j (eqb-false j i f)) (sound.fits j h));
        }

    module _ (valid : Valid m) (plan : List ℕ) (shaped : well_shaped m plan ≡ true) where
      pub changed-there : (k : ℕ) → group_of (groups_in m plan) i ≡ k
          → present m plan (with_mode state i mode) k
          ≡ shifted m (groups_in m plan) k (present m plan state k) i (mode_of state i) mode
      changed-there k e =
          let n = groups-length m valid plan shaped in
          rw modes-with_mode
          (mode_number-set m valid (groups_in m plan) n k (modes state) i mode sound.fits
          (length-modes state (machine_count m) sound.long) (is_member (groups_in m plan) k (rw n here) e) has)

      pub changed-elsewhere : (a : ℕ) → (group_of (groups_in m plan) i ≡ a → ⊥)
          → present m plan (with_mode state i mode) a ≡ present m plan state a
      changed-elsewhere a n =
          rw modes-with_mode
          (mode_number-set-outside m valid (groups_in m plan) (groups-length m valid plan shaped) a (modes state) i mode n)
