-- As wished, by the goal's own bytes, is met: of a state that passes 13.
-- Assumes nothing.
use Prim.Native.Nat.{ℕ, ◌≤◌, ◌<◌}
use mathlib.Core.Path.{◌≡◌, ◌∙◌}
use mathlib.Core.List.{List, Memᴰ}
use mathlib.Core.Bool.{true}
use native.Mathlib.Omega.{arith}
use borrow.Author.Tests.{ltb-true, ltb-false, lt-ltb, le-ltb}
use lib.Dec.{ltb}
use lib.ListN.{length, get_or}
use Rattle.common.specs.Bits.{bit}
use Rattle.common.proofs.Bits.{bit-full}
use Rattle.common.proofs.Bools.{by_cases, cond-true, cond-false}
use Rattle.common.proofs.Lists.{all-at, all-intro}
use Rattle.common.proofs.Members.{get_or-map-up_to}
use Rattle.sheet.specs.Record.{byte}
use Rattle.sheet.specs.Model.{Model, machine_count}
use Rattle.sheet.specs.Valid.{Valid}
use Rattle.plan.specs.Groups.{members}
use Rattle.plan.specs.Reading.{groups_in, well_shaped}
use Rattle.plan.proofs.Modes.{is_member, member_below, member_of}
use Rattle.command.specs.State.{mode_of}
use Rattle.command.specs.Goal.{any_mode, goal_masks, met}
use Rattle.command.specs.Run.{Lent}
use Rattle.command.specs.Arrival.{AsWished}
use Rattle.command.proofs.Shape.{Sound, groups-length}

-- the mask of a machine: its byte, or any mode past the end
module _ (m : Model) (goal : List ℕ) (i : ℕ) (here : i < machine_count m) where
  pub mask-within : i < length goal → get_or (goal_masks m goal) i any_mode ≡ byte goal i
  unfolding goal_masks
  mask-within h = get_or-map-up_to _ any_mode here ∙ cond-true _ _ (lt-ltb _ _ h)

  pub mask-past : length goal ≤ i → get_or (goal_masks m goal) i any_mode ≡ 255
  unfolding goal_masks
  mask-past h = get_or-map-up_to _ any_mode here ∙ cond-false _ _ (le-ltb _ _ h)

module _ (m : Model) (lent : Lent) (valid : Valid m) (shaped : well_shaped m lent.plan ≡ true) (state : List ℕ)
    (sound : Sound m state) (k : ℕ) where
  pub met-wished : met (groups_in m lent.plan) (goal_masks m lent.goal) state k ≡ true → AsWished lent m state k
  unfolding met
  met-wished t i here e h =
      let n = groups-length m valid lent.plan shaped in
      rw mask-within at (all-at _ t (is_member (groups_in m lent.plan) k (rw n here) e))

  pub wished-met : AsWished lent m state k → met (groups_in m lent.plan) (goal_masks m lent.goal) state k ≡ true
  unfolding met
  wished-met w =
      all-intro _ (members (groups_in m lent.plan) k) (λ i l. allowed i l (omega (
        arith,
        groups-length m valid lent.plan shaped,
        member_below (groups_in m lent.plan) k l,
      )))
    where
      allowed : (i : ℕ) → Memᴰ i (members (groups_in m lent.plan) k) → i < machine_count m
          → bit (get_or (goal_masks m lent.goal) i any_mode) (mode_of state i) ≡ true
      allowed i l here =
          by_cases (ltb i (length lent.goal))
          (λ t.
          let h : i < length lent.goal = ltb-true _ _ t in
          rw (mask-within m lent.goal i here h) (w i here (member_of (groups_in m lent.plan) k l) h))
          (λ f.
          let few = (valid.machines-valid i here).few-modes in
          rw (mask-past m lent.goal i here (ltb-false _ _ f)) (bit-full _ (omega (arith, sound.fits i here))))
