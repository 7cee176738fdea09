-- For each of some groups, its modes that a goal allows: the groups are taken one after the other, and the modes of each that
-- the goal's masks allow are those that the goal allows.
-- Assumes nothing.
use Prim.Native.Nat.{ℕ, ◌^◌, ◌<◌}
use mathlib.Core.Path.{◌≡◌, sym, ◌∙◌}
use mathlib.Core.List.{List}
use mathlib.Core.Bool.{true, false, and-true}
use native.Mathlib.Omega.{arith}
use borrow.Author.Tests.{eqb-true, eqb-false}
use lib.Dec.{eqb}
use lib.ListN.{length, get_or, set, length-set}
use lib.Seq.{get_or-set_same, get_or-set_other}
use Rattle.common.specs.Bits.{bit}
use Rattle.common.proofs.Bools.{by_cases, true-false}
use Rattle.common.proofs.Lists.{all-cong}
use Rattle.sets.specs.Kept.Sets.{alone, less, least}
use Rattle.sets.proofs.Laws.{bit-none, bit-less, bit-alone, less-from}
use Rattle.sets.proofs.Members.{least-member, taken-fits}
use Rattle.sheet.specs.Model.{Model}
use Rattle.sheet.specs.Valid.{Valid}
use Rattle.plan.specs.Groups.{Grouping, members, group_count}
use Rattle.plan.specs.Modes.{size, mode_in}
use Rattle.plan.specs.Kept.ModeSets.{ModesHeld, MasksOf, MachinesOf, WithinSet}
use Rattle.plan.specs.Kept.Partition.{MemberSets}
use Rattle.plan.specs.Reading.{groups_in}
use Rattle.plan.proofs.Modes.{member_below, mode_in-below}
use Rattle.plan.proofs.WithinModes.{group-machines}
use Rattle.command.specs.Goal.{Masks, any_mode, allowed}
use Rattle.command.specs.Kept.Question.{Allows, Kept, GroupsOnly, AllowedSet, AllowedSets, weights_in, size_in}
use Rattle.command.specs.declared.query.Question.{Question}
use Rattle.command.proofs.Placing.{placed-count}

-- the array of a goal: some modes of each machine, and the group modes within them are those that the goal allows
module _ {m : Model} {goal : Masks} {masks : List ℕ} (allows : Allows m goal masks) where
  pub allows-masks : Valid m → length masks ≡ 32 → MasksOf m masks
  allows-masks valid long = record { long = omega (arith, long, valid.few-machines); within = allows.within }

  allows-set : {plan weights zeros : List ℕ} {k s : ℕ} → ModesHeld m (groups_in m plan) weights zeros
      → WithinSet m (groups_in m plan) k masks s → AllowedSet m plan goal k s
  unfolding allowed
  allows-set {plan} {k = k} held w =
      let All-there = held.weighed.all-machines in
      record {
        bits = λ q.
            w.bits q
            ∙ rw (all-cong (λ i. bit (get_or masks i 0) (mode_in m (groups_in m plan) k q i))
            (λ i. bit (get_or goal i any_mode) (mode_in m (groups_in m plan) k q i)) (members (groups_in m plan) k) (λ i l.
            allows.each i _ (omega (arith, All-there, member_below (groups_in m plan) k l))
            (mode_in-below m held.weighed.valid (groups_in m plan) All-there k q i l)));
      }

-- the sets so far, and the groups to come

pub record SetsUpto (q : Question) (plan state starts masks members : List ℕ) (among : ℕ) (r : List ℕ) (rest : ℕ) : Type 0 where
  pub fits : rest < 2 ^ 64
  pub long : length r ≡ 32
  pub inside : (k : ℕ) → bit rest k ≡ true → bit among k ≡ true
  pub done : (m : Model) (goal : Masks)
      → Kept m plan state q.facts.now q.zeros.now starts
      → Allows m goal masks → GroupsOnly m plan among → MemberSets (groups_in m plan) members
      → (k : ℕ) → bit among k ≡ true → bit rest k ≡ false → AllowedSet m plan goal k (get_or r k 0)

module _ {q : Question} {plan state starts masks members : List ℕ} {among : ℕ} where
  pub sets-none : {r : List ℕ} → length r ≡ 32 → among < 2 ^ 64 → SetsUpto q plan state starts masks members among r among
  sets-none long fits =
      record {
        fits = fits;
        long = long;
        inside = λ k t. t;
        done = λ m goal kept allows only sets k t f. absurd (true-false t f);
      }

  module _ {r : List ℕ} {rest k : ℕ} (u : SetsUpto q plan state starts masks members among r rest) (z : rest ≡ 0 → ⊥)
      (e : k ≡ least rest) where
    chosen : bit among k ≡ true
    chosen = u.inside k (rw e (least-member u.fits z))

    module _ {m : Model} (kept : Kept m plan state q.facts.now q.zeros.now starts)
        (only : GroupsOnly m plan among) where
      there : k < group_count (groups_in m plan)
      there = only k chosen

      pub sets-place : k < 32
      sets-place = omega (arith, there, placed-count kept.placed)

      pub sets-size : {n : ℕ} → n ≡ size_in q.facts.now k → n ≡ size m (groups_in m plan) k
      sets-size en = en ∙ kept.sizes k there

    pub sets-next : {n x v : ℕ} {weights : List ℕ} → length masks ≡ 32 → n ≡ size_in q.facts.now k → weights ≡ weights_in q.facts.now
        → ((m : Model) (groups : Grouping) (j : ℕ) → ModesHeld m groups weights q.zeros.now → MasksOf m masks
        → MachinesOf groups j (get_or members k 0) → n ≡ size m groups j → WithinSet m groups j masks x)
        → v ≡ less rest (alone k) → SetsUpto q plan state starts masks members among (set r k x) v
    sets-next {n} {x} {v} long en ew f ev =
        record {
          fits = taken-fits u.fits z e ev;
          long = length-set r k x ∙ u.long;
          inside = λ j y. u.inside j (less-from rest (alone k) j (rw ev at y));
          done = λ m goal kept allows only sets j t l.
              by_cases (eqb k j)
              (λ y.
              let of = group-machines sets (sets-place kept only) in
              let held = kept.held in
              let within = f m (groups_in m plan) k (rw ew held) (allows-masks allows held.weighed.valid long) of
              (sets-size kept only en) in
              rw (← eqb-true k j y, get_or-set_same r k x 0 (omega (arith, u.long, sets-place kept only)))
              (allows-set allows held within))
              (λ y.
              let other : bit rest j ≡ false = rw (ev, bit-less, bit-alone, y, and-true) at l in
              rw (get_or-set_other r k j x 0 (λ q. eqb-false k j y (sym q)))
              (u.done m goal kept allows only sets j t other));
        }

  pub sets_end : {r : List ℕ} {rest : ℕ} → SetsUpto q plan state starts masks members among r rest → rest ≡ 0
      → (m : Model) (goal : Masks)
      → Kept m plan state q.facts.now q.zeros.now starts
      → Allows m goal masks → GroupsOnly m plan among → MemberSets (groups_in m plan) members
      → AllowedSets m plan goal among r
  sets_end u z m goal kept allows only sets =
      record { each = λ k t. u.done m goal kept allows only sets k t (rw z (bit-none k)) }
