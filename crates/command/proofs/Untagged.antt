-- A move that the method picks for a covered goal is one of the highest unmet group or of a group upstream of it, under any
-- plan in shape; 16 was judged of all of these, so its machine has no tag.
-- Assumes nothing.
use Prim.Native.Nat.{ℕ, ◌<◌}
use mathlib.Core.Path.{◌≡◌, refl}
use mathlib.Core.Logic.{inl, inr, ⊎_elim}
use mathlib.Core.List.{List}
use mathlib.Core.Bool.{true, false}
use Rattle.common.specs.Reply.{clear}
use Rattle.sheet.specs.Model.{Model, move_count, move_at}
use Rattle.sheet.specs.Valid.{Valid}
use Rattle.plan.specs.Groups.{group_of, group_count}
use Rattle.plan.specs.Reading.{groups_in, well_shaped}
use Rattle.plan.specs.Shown.{usable_in, UsableUnder}
use Rattle.plan.proofs.Named.{moves-in}
use Rattle.plan.proofs.Counted.{moves-counted}
use Rattle.plan.proofs.Modes.{is_member}
use Rattle.plan.proofs.Shown.{usable-shown}
use Rattle.command.specs.State.{tag_of}
use Rattle.command.specs.Goal.{Masks, guard_masks, met}
use Rattle.command.specs.Ancestors.{upstream_in}
use Rattle.command.specs.Attainable.{cover_faults}
use Rattle.command.specs.Uncovered.{Concerns}
use Rattle.command.specs.Method.{entry_move, Picks, sends, prepares}
use Rattle.command.proofs.Shape.{Sound, groups-length, group-below}
use Rattle.command.proofs.Goals.{unmet-upstream}
use Rattle.command.proofs.Upstream.{upstream-trans}
use Rattle.command.proofs.Acts.{live-untagged}
use Rattle.command.proofs.Causes.{all_live, clear-group}

module _ (m : Model) (valid : Valid m) (plan : List ℕ) (shaped : well_shaped m plan ≡ true) (state : List ℕ)
    (sound : Sound m state) where
  -- the group of a move
  abbrev home : ℕ → ℕ
  home v = group_of (groups_in m plan) (move_at m v).machine

  -- the unmet group for which move v is picked: its own, or one downstream of it
  pub record Way (masks : Masks) (n v : ℕ) : Type 0 where
    pub listed : v < move_count m
    pub top : ℕ
    pub below : top < n
    pub unmet : met (groups_in m plan) masks state top ≡ false
    pub leads : Concerns m plan (usable_in m plan) state masks top (home v)

  -- what a usable move v of group k needs leaves a group unmet: that one is upstream of k
  needs-up : (k v : ℕ) → v < move_count m → home v ≡ k → UsableUnder m plan v → (a : ℕ)
      → met (groups_in m plan) (guard_masks m (groups_in m plan) k (move_at m v)) state a ≡ false
      → upstream_in m plan (usable_in m plan) k a ≡ true
  needs-up k v listed own usable =
      let member = moves-in m (groups_in m plan) listed own in
      unmet-upstream m valid plan shaped k v member state sound (usable_in m plan)
      (moves-counted m plan (usable_in m plan) k member ((usable-shown m valid plan shaped v listed).1 usable))

  pub picked-way : {masks : Masks} {n v : ℕ} → Picks m plan state masks n (entry_move v) → Way masks n v
  picked-way (sends k q h t f o) =
      record { listed = f.listed; top = k; below = h.below; unmet = h.unmet; leads = inl f.own }
  picked-way {v = v} (prepares k q h t f w p) =
      let r = picked-way p in
      let up = needs-up k _ f.listed f.own f.usable r.top r.unmet in
      record {
        listed = r.listed;
        top = k;
        below = h.below;
        unmet = h.unmet;
        leads = inr (⊎_elim (λ e. rw e up) (λ u. upstream-trans m valid plan (usable_in m plan) shaped k r.top (home v) up u) r.leads);
      }

  module _ (masks : Masks) (covered : clear (cover_faults m plan state masks) ≡ true) where
    pub picked-untagged : (v : ℕ) → Picks m plan state masks (group_count (groups_in m plan)) (entry_move v)
        → tag_of state (move_at m v).machine ≡ 0
    picked-untagged v picks =
        let r = picked-way picks in
        let there = (valid.moves-valid v r.listed).present in
        let passed = clear-group m plan (usable_in m plan) state masks covered r.top r.below r.unmet in
        let live = all_live m plan (usable_in m plan) state masks r.top passed (home v)
        (group-below m valid plan shaped (move_at m v).machine there) r.leads in
        live-untagged m plan state (home v) (move_at m v).machine live
        (is_member (groups_in m plan) (home v) (rw groups-length there) refl)
