-- A state that passes 13, for a plan in shape: its length, its modes, and the number of each machine's group. The same of
-- what a question keeps.
-- Assumes nothing.
use Prim.Native.Nat.{ℕ, ◌+◌, ◌*◌, ◌≤◌, ◌<◌}
use mathlib.Core.Path.{◌≡◌, ap, ◌∙◌}
use mathlib.Core.List.{List}
use native.Mathlib.Omega.{arith}
use borrow.Author.Tests.{ltb-true, ltb-false}
use lib.Dec.{ltb}
use lib.ListN.{length, get_or, get_or-eq_default}
use Rattle.common.specs.Lists.{pad}
use Rattle.common.proofs.Bools.{by_cases}
use Rattle.common.proofs.Pad.{length-pad}
use Rattle.sheet.specs.Model.{Model, machine_count, mode_count}
use Rattle.sheet.proofs.Records.{part_length, part-byte}
use Rattle.plan.specs.Groups.{group_of, group_count}
use Rattle.plan.specs.Reading.{groups_in}
use Rattle.plan.specs.Kept.ModeSets.{ModesHeld}
use Rattle.plan.specs.Kept.Showing.{Shows}
use Rattle.plan.proofs.NumbersUsed.{gapless-count}
use Rattle.command.specs.State.{mode_of}
use Rattle.command.specs.Kept.Question.{machines_in, Placed, Kept, numbers_in, weights_in, sizes_in, size_in}
use Rattle.command.proofs.Shape.{Sound, sound-state, shape-gapless, groups-length, group-below}

module _ {m : Model} {plan state numbers : List ℕ} (p : Placed m plan state numbers) where
  pub placed-sound : Sound m state
  placed-sound = sound-state m state p.passes

  pub placed-machines : machines_in state ≡ machine_count m
  placed-machines = omega (arith, placed-sound.long)

  pub placed-known : machines_in state ≤ 32
  placed-known = omega (arith, placed-machines, p.valid.few-machines)

  -- the modes
  pub placed-mode : (i : ℕ) → i < machine_count m → mode_of state i < mode_count m i
  placed-mode i h = placed-sound.fits i h

  -- the live modes, in an array of 32
  pub placed-live : {live : List ℕ} → live ≡ pad 32 m.live → length live ≡ 32
  placed-live e =
      ap length e ∙ length-pad 32 m.live (omega (arith, p.valid.same_length, p.valid.few-machines))

  -- the groups
  pub placed-groups : length (groups_in m plan) ≡ machine_count m
  placed-groups = groups-length m p.valid plan p.shaped

  pub placed-count : group_count (groups_in m plan) ≤ 32
  placed-count =
      let used = gapless-count (groups_in m plan) (shape-gapless m plan p.shaped) in
      omega (arith, placed-groups, p.valid.few-machines)

  pub placed-numbers : length numbers ≡ machine_count m
  placed-numbers = ap length p.numbered ∙ placed-groups

  -- the bytes of each machine are there
  pub placed-inside : (i : ℕ) → i < length numbers → 2 * i + 1 < length state
  placed-inside i h = omega (arith, placed-numbers, placed-sound.long)

  pub placed-few : length numbers ≤ 32
  placed-few = omega (arith, placed-numbers, p.valid.few-machines)

  pub placed-group : (i : ℕ) → group_of numbers i ≡ group_of (groups_in m plan) i
  placed-group i = ap (λ xs. get_or xs i 0) p.numbered

  pub placed_below : (i : ℕ) → i < machine_count m → group_of numbers i < group_count (groups_in m plan)
  placed_below i h = omega (arith, placed-group i, group-below m p.valid plan p.shaped i h)

  -- any number, also behind those of the machines, is below 32
  pub placed-number : (i : ℕ) → group_of numbers i < 32
  placed-number i =
      by_cases (ltb i (machine_count m))
      (λ t. omega (arith, placed_below i (ltb-true i (machine_count m) t), placed-count))
      (λ f.
      let h : machine_count m ≤ i = ltb-false i (machine_count m) f in
      omega (arith, placed-group i, get_or-eq_default (groups_in m plan) 0 {n = i} (omega (arith, placed-groups))))

module _ {m : Model} {plan state facts zeros starts : List ℕ} (kept : Kept m plan state facts zeros starts) where
  -- what `numbers` asks
  -- the numbers of the machines that the state has
  pub kept-placed : {numbers : List ℕ} → numbers ≡ numbers_in facts (machines_in state) → Placed m plan state numbers
  kept-placed e =
      record {
        valid = kept.placed.valid;
        shaped = kept.placed.shaped;
        passes = kept.placed.passes;
        numbered = e ∙ ap (numbers_in facts) (placed-machines kept.placed) ∙ kept.placed.numbered;
      }

  -- if the first n numbers are those of the groups, the state is for n machines
  pub kept-machines : {n : ℕ} → n ≤ 32 → numbers_in facts n ≡ groups_in m plan → machines_in state ≡ n
  unfolding numbers_in
  kept-machines {n} few e =
      omega (
        arith,
        part_length facts 0 n (omega (arith, kept.long)),
        ap length e,
        placed-groups kept.placed,
        placed-machines kept.placed,
      )

  -- what judging moves by the plan reads
  pub kept-shows : {numbers weights sizes : List ℕ} → numbers ≡ groups_in m plan → weights ≡ weights_in facts → sizes ≡ sizes_in facts
      → Shows m plan numbers weights sizes starts zeros
  unfolding sizes_in size_in
  kept-shows e f g =
      record {
        valid = kept.placed.valid;
        shaped = kept.placed.shaped;
        numbered = e;
        sizes-long = rw g (part_length facts 64 32 (omega (arith, kept.long)));
        starts-long = kept.starts-long;
        held-long = kept.sets-long;
        sized = λ k h. rw g (part-byte facts 64 32 k (omega (arith, placed-count kept.placed)) ∙ kept.sizes k h);
        starts-at = kept.starts-at;
        modes = rw f kept.held;
        lives = kept.lives;
      }

  -- where the machines stand in mode 0
  pub kept-held : {numbers weights : List ℕ} → numbers ≡ numbers_in facts (machines_in state) → weights ≡ weights_in facts
      → ModesHeld m numbers weights zeros
  kept-held e f = rw ((kept-placed e).numbered, f) kept.held
