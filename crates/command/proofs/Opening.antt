-- What is kept of a sheet and of a plan in shape for it, for a state that passes 13, as a question is asked by it: the
-- numbers of the groups, sizes and weights, which are exact, the groups that each names, and the places of the moves.
-- Assumes nothing.
use Prim.Native.Nat.{ℕ, ◌≤◌, ◌<◌}
use mathlib.Core.Path.{◌≡◌, refl, sym, ap, ◌∙◌}
use mathlib.Core.List.{List, map}
use mathlib.Core.Bool.{true}
use native.Mathlib.Omega.{arith}
use borrow.Author.Tests.{ltb-true, ltb-false}
use lib.Dec.{ltb}
use lib.ListN.{length, get_or, take, get_or-eq_default}
use lib.Seq.{take_at, length-take-le}
use Rattle.common.specs.Lists.{up_to, pad}
use Rattle.common.specs.Reply.{clear}
use Rattle.common.proofs.Bools.{by_cases}
use Rattle.common.proofs.Members.{length-map-up_to, get_or-map-up_to}
use Rattle.common.proofs.Pad.{get_or-pad, length-pad}
use Rattle.sheet.specs.declared.index.Sheet.{Sheet}
use Rattle.sheet.specs.Record.{part}
use Rattle.sheet.specs.Model.{Model, machine_count}
use Rattle.sheet.specs.Index.{index_of}
use Rattle.sheet.specs.Valid.{Valid}
use Rattle.sheet.proofs.Indexed.{indexes-valid, indexes-machines, indexes-modes, indexes-array}
use Rattle.sheet.proofs.Indexed.{indexes-listed}
use Rattle.plan.specs.declared.partition.Groups.{Groups}
use Rattle.plan.specs.Bytes.{table_at}
use Rattle.plan.specs.Groups.{Grouping, group_of, group_count}
use Rattle.plan.specs.Modes.{size, weight, mode_number}
use Rattle.plan.specs.Kept.Sizes.{capped, capped_sizes}
use Rattle.plan.specs.Kept.Partition.{capped_weights, MemberSets, Partitioned}
use Rattle.plan.specs.Kept.ModeSets.{Weighed, Sized, ZeroSets, ModesHeld}
use Rattle.plan.specs.Kept.Showing.{Lives, LivesFrom}
use Rattle.plan.specs.Promised.{SmallGroups}
use Rattle.plan.specs.Reading.{groups_in, every_move}
use Rattle.plan.proofs.CappedSizes.{capped_small}
use Rattle.plan.proofs.Counted.{counted-all}
use Rattle.plan.proofs.DigitSets.{weight-small}
use Rattle.plan.proofs.LengthLaws.{size-kept}
use Rattle.plan.proofs.MachineDigits.{machine-digit}
use Rattle.plan.proofs.Named.{group-below-count}
use Rattle.plan.proofs.ShapeTests.{shape-tests}
use Rattle.plan.proofs.TableStarts.{starts-are}
use Rattle.command.specs.State.{modes, state_faults}
use Rattle.command.specs.Goal.{Masks}
use Rattle.command.specs.Kept.Question.{Allows, Opened, Placed, Kept, NamedBy, UnmetSet, KeptGoal}
use Rattle.command.specs.Kept.Question.{numbers_in, weights_in, size_in, present_in}
use Rattle.command.proofs.Shape.{groups-length, few-groups}

module _ {m : Model} {file plan : List ℕ} {x : Sheet} {g : Groups} {starts : List ℕ}
    (o : Opened m file plan x g starts) where
  abbrev own : Grouping
  own = groups_in m plan

  abbrev count : ℕ
  count = group_count (groups_in m plan)

  parts : Partitioned m own g
  parts = o.outlined.groups

  opened-valid : Valid m
  opened-valid = indexes-valid o.indexes

  opened-machines : x.machines ≡ machine_count m
  opened-machines = indexes-machines o.indexes

  long : length own ≡ machine_count m
  long = groups-length m opened-valid plan o.shaped

  few-machines : length own ≤ 32
  few-machines = omega (arith, long, opened-valid.few-machines)

  pub opened-few : x.machines ≤ 32
  opened-few = omega (arith, opened-machines, opened-valid.few-machines)

  few : count ≤ 32
  few = few-groups m opened-valid plan o.shaped

  small : SmallGroups m own
  small = ((shape-tests m plan).0 o.shaped).small

  -- the mode counts, in an array of 32
  pub opened-modes : (i : ℕ) → get_or x.modes i 0 ≤ 8
  opened-modes i =
      by_cases (ltb i (machine_count m))
      (λ t.
      omega (arith, indexes-modes o.indexes i, (opened-valid.machines-valid i (ltb-true i (machine_count m) t)).few-modes))
      (λ f.
      omega (
        arith,
        indexes-modes o.indexes i,
        get_or-eq_default m.modes 0 {n = i} (ltb-false i (machine_count m) f),
      ))

  starts-placed : (k : ℕ) → k ≤ count → get_or starts k 0 ≡ table_at m own k
  starts-placed = starts-are m own few small parts.sizes refl (rw parts.count at o.outlined.places)

  -- the arrays of the groups

  pub opened-count : g.count ≤ 32
  opened-count = omega (arith, parts.count, few)

  pub numbers-long : 32 ≡ length g.numbers
  numbers-long = sym (ap length parts.numbers ∙ length-pad 32 own few-machines)

  pub opened-within : x.machines ≤ length g.numbers
  opened-within = omega (arith, opened-few, numbers-long)

  pub sizes-long : 32 ≡ length g.sizes
  unfolding capped_sizes
  sizes-long = sym (ap length parts.sizes ∙ length-map-up_to (λ k. capped (size m own k)) 32)

  size_is : (k : ℕ) → k < count → get_or g.sizes k 0 ≡ size m own k
  size_is k h = ap (λ l. get_or l k 0) parts.sizes ∙ size-kept m own few small k h

  abbrev weigh : ℕ → ℕ
  weigh i = weight m own (group_of own i) i

  weighed-by : {weights : List ℕ} → length own ≤ length weights
      → ((i : ℕ) → i < length own → get_or weights i 0 ≡ weigh i) → Weighed m own weights
  weighed-by l each =
      record {
        valid = opened-valid;
        all-machines = long;
        small = λ i h. small (group_of own i) (group-below-count own i h);
        weighs = record { long = l; each = each };
      }

  exact : Weighed m own (map weigh (up_to (length own)))
  exact = weighed-by (omega (arith, length-map-up_to weigh (length own))) (λ i h. get_or-map-up_to weigh 0 h)

  pub weights-long : 32 ≡ length g.weights
  unfolding capped_weights
  weights-long =
      sym (ap length parts.weights
      ∙ length-pad 32 (map (λ i. capped (weigh i)) (up_to (length own)))
      (omega (arith, few-machines, length-map-up_to (λ i. capped (weigh i)) (length own))))

  weighed : Weighed m own g.weights
  unfolding capped_weights
  weighed =
      weighed-by
      (omega (arith, weights-long, few-machines))
      (λ i h.
      ap (λ l. get_or l i 0) parts.weights
      ∙ get_or-pad 32 (map (λ j. capped (weigh j)) (up_to (length own))) i
      ∙ get_or-map-up_to (λ j. capped (weigh j)) 0 h
      ∙ capped_small (weigh i) (omega (arith, weight-small (machine-digit exact h))))

  sized : Sized m own g.sizes x.modes
  sized =
      record {
        placed = λ i h. omega (arith, sizes-long, few, group-below-count own i h);
        sized = λ i h. size_is (group_of own i) (group-below-count own i h);
        counted = record {
          long = omega (arith, few-machines, indexes-array o.indexes);
          each = λ i h. indexes-modes o.indexes i;
        };
      }

  -- the numbers that are lent, which are the groups

  abbrev lent : List ℕ
  lent = take x.machines g.numbers

  opened-numbers : take x.machines g.numbers ≡ groups_in m plan
  unfolding pad
  opened-numbers = ap (take x.machines) parts.numbers ∙ take_at own _ _ (long ∙ sym opened-machines)

  pub opened-lent : x.machines ≡ length (take x.machines g.numbers)
  opened-lent = sym (length-take-le _ _ opened-within)

  pub opened-lent-few : length (take x.machines g.numbers) ≤ 32
  opened-lent-few = omega (arith, opened-lent, opened-few)

  pub opened-below : (i : ℕ) → i < length (take x.machines g.numbers)
      → get_or (take x.machines g.numbers) i 0 < 32
  opened-below i h =
      rw opened-numbers (omega (arith, group-below-count own i (rw opened-numbers at h), few))

  pub opened-weighed : Weighed m (take x.machines g.numbers) g.weights
  opened-weighed = rw opened-numbers weighed

  pub opened-sized : Sized m (take x.machines g.numbers) g.sizes x.modes
  opened-sized = rw opened-numbers sized

  -- of the sheet

  opened-live : x.live ≡ pad 32 m.live
  unfolding index_of
  opened-live = ap (λ y. y.live) o.indexes.index ∙ rw o.indexes.model

  live-length : length (pad 32 m.live) ≡ 32
  live-length = length-pad 32 m.live (omega (arith, opened-valid.same_length, opened-valid.few-machines))

  pub live-long : 32 ≡ length x.live
  live-long = sym (ap length opened-live ∙ live-length)

  opened-named : NamedBy m plan every_move g.named
  opened-named = record { bits = λ k a h. rw counted-all (parts.named k a h) }

  pub opened-members : {machines : List ℕ} → MemberSets (take x.machines g.numbers) machines
      → MemberSets (groups_in m plan) machines
  opened-members sets = rw opened-numbers at sets

  -- what `put_lives` asks
  pub opened-lives : {zeros machines : List ℕ}
      → ((m : Model) → Weighed m (take x.machines g.numbers) g.weights
      → Sized m (take x.machines g.numbers) g.sizes x.modes
      → ZeroSets m (take x.machines g.numbers) zeros)
      → MemberSets (groups_in m plan) machines
      → LivesFrom m (groups_in m plan) x.live g.weights g.sizes machines g.count zeros
  opened-lives at_zero sets =
      record {
        modes = record { weighed = weighed; at_zero = rw opened-numbers at (at_zero m opened-weighed opened-sized) };
        lit-modes = record {
          long = omega (arith, few-machines, live-long);
          each = λ i h. ap (λ l. get_or l i 0) opened-live ∙ get_or-pad 32 m.live i;
        };
        members = sets;
        sized = λ k h. size_is k (rw parts.count at h);
      }

  -- a state that passes

  module _ (state : List ℕ) (passes : clear (state_faults m state) ≡ true) where
    pub opened-placed : Placed m plan state (take x.machines g.numbers)
    opened-placed =
        record { valid = opened-valid; shaped = o.shaped; passes = passes; numbered = opened-numbers }

    module _ (present facts machines : List ℕ) {zeros held : List ℕ}
        (at_zero : (m : Model) → Weighed m (take x.machines g.numbers) g.weights
        → Sized m (take x.machines g.numbers) g.sizes x.modes
        → ZeroSets m (take x.machines g.numbers) zeros)
        (sets : MemberSets (take x.machines g.numbers) machines)
        (living : (m : Model) (groups : Grouping)
        → LivesFrom m groups x.live g.weights g.sizes machines g.count zeros
        → ModesHeld m groups g.weights held × Lives m groups g.count held)
        (whole-sets : length held ≡ 64)
        (here : (m : Model) → Weighed m (take x.machines g.numbers) g.weights
        → clear (state_faults m state) ≡ true → (k : ℕ) → k < 32
        → get_or present k 0 ≡ mode_number m (take x.machines g.numbers) k (modes state))
        (gathered : ((n : ℕ) → n ≤ 32 → numbers_in facts n ≡ numbers_in g.numbers n)
        × (weights_in facts ≡ g.weights)
        × ((k : ℕ) → k < 32 → size_in facts k ≡ get_or g.sizes k 0)
        × ((k : ℕ) → k < 32 → present_in facts k ≡ get_or present k 0))
        (whole : length facts ≡ 128) where
      numbers-are : numbers_in facts (machine_count m) ≡ own
      unfolding numbers_in part
      numbers-are = gathered.0 (machine_count m) opened-valid.few-machines ∙ rw (← opened-machines) opened-numbers

      opened-kept : Kept m plan state facts held starts
      opened-kept =
          let (modes, lives) = living m own (opened-lives at_zero (opened-members sets)) in
          record {
            long = whole;
            starts-long = o.long;
            sets-long = whole-sets;
            placed = rw (numbers-are, ← opened-numbers) opened-placed;
            held = rw gathered.1 modes;
            lives = rw parts.count at lives;
            sizes = λ k h. gathered.2 k (omega (arith, few)) ∙ size_is k h;
            present-modes = λ k h.
                gathered.3 k (omega (arith, few)) ∙ rw opened-numbers at (here m opened-weighed passes k (omega (arith, few)));
            starts-at = λ k h. starts-placed k (omega arith);
          }

      pub opened-goal : {goal : Masks} {masks : List ℕ} {left : ℕ} → Allows m goal masks
          → ((m : Model) (plan : List ℕ) (goal : Masks) → Placed m plan state (take x.machines g.numbers)
          → Allows m goal masks → UnmetSet m plan state goal left)
          → KeptGoal m file plan state goal (take x.moves x.places) starts facts held
          g.named machines x.live masks left
      opened-goal {goal} allows unmet =
          record {
            kept = opened-kept;
            listed = indexes-listed o.indexes;
            naming = opened-named;
            members = opened-members sets;
            lives = opened-live;
            allows = allows;
            leaves = unmet m plan goal opened-placed allows;
          }
