-- The shape of a plan (15), as the code judges it: each test that fails refuses the plan, and where all pass, it is in
-- shape.
-- Assumes nothing.
use Prim.Native.Nat.{ℕ, ◌≤◌, ◌<◌}
use mathlib.Core.Path.{◌≡◌, refl, sym, ap, ◌∙◌}
use mathlib.Core.List.{List}
use mathlib.Core.Bool.{Bool, true, false, not, ◌&&◌}
use native.Mathlib.Omega.{arith}
use borrow.Author.Tests.{not-true, not-false, le-leb}
use lib.ListN.{length, get_or}
use Rattle.common.specs.Lists.{up_to}
use Rattle.common.proofs.Bools.{true-false, false-of-not-true, and_intro, and_left, and_right}
use Rattle.common.proofs.Lists.{all-intro}
use Rattle.common.proofs.Members.{up_to-below}
use Rattle.sheet.specs.declared.index.Sheet.{Sheet}
use Rattle.sheet.specs.Record.{part, body_at}
use Rattle.sheet.specs.Model.{Model, machine_count}
use Rattle.sheet.specs.Valid.{Valid}
use Rattle.sheet.specs.Kept.Indexed.{Indexes}
use Rattle.sheet.proofs.Indexed.{indexes-valid, indexes-machines}
use Rattle.plan.specs.declared.partition.Groups.{Groups}
use Rattle.plan.specs.Groups.{group_count}
use Rattle.plan.specs.Promised.{SmallGroups}
use Rattle.plan.specs.Kept.Sizes.{first_large}
use Rattle.plan.specs.Reading.{groups_in, has_record, gapless, needs_first, fits_records, well_shaped}
use Rattle.plan.specs.Kept.Partition.{Numbers, Partitioned}
use Rattle.plan.specs.Kept.Outline.{lower_named, StartsAt, tables_fit, ends_at, NumbersFit, Outlined}
use Rattle.plan.proofs.Named.{group-below-count}
use Rattle.plan.proofs.Replies.{none-large}
use Rattle.plan.proofs.LengthLaws.{large-tests, some-large, small}
use Rattle.plan.proofs.NumbersUsed.{gapless-count}
use Rattle.plan.proofs.NeedsNamed.{lower-named-first}
use Rattle.plan.proofs.RecordTests.{shown-body, shown-length}
use Rattle.plan.proofs.TableStarts.{records-same}
use Rattle.plan.proofs.ShapeTests.{ShapeTests, shape-tests}

-- a test that fails refuses the plan
test-fails : (m : Model) (plan : List ℕ) → (ShapeTests m plan → ⊥) → well_shaped m plan ≡ false
test-fails m plan fails = false-of-not-true (λ t. fails ((shape-tests m plan).0 t))

module _ {m : Model} (valid : Valid m) {plan : List ℕ} (fit : NumbersFit m plan) where
  numbers-are : body_at plan 0 ≡ groups_in m plan
  unfolding groups_in
  numbers-are = shown-body plan 0 16 (machine_count m) fit.shown

  all-machines : length (groups_in m plan) ≡ machine_count m
  all-machines = ap length (sym numbers-are) ∙ shown-length plan 0 16 (machine_count m) fit.shown

  few : group_count (groups_in m plan) ≤ 32
  few = omega (arith, gapless-count (groups_in m plan) fit.no_gap, valid.few-machines, all-machines)

  -- the groups are judged
  module _ {g : Groups} {starts : List ℕ} (o : Outlined m plan g starts) where
    module _ {k : ℕ} (first : k ≡ first_large g.sizes g.count) where
      pub large-wrong : k < g.count → well_shaped m plan ≡ false
      large-wrong h =
          test-fails m plan (λ t.
          true-false
          (sym (large-tests m (groups_in m plan) few)
          ∙ some-large m (groups_in m plan) few o.groups.count o.groups.sizes first h)
          (none-large m (groups_in m plan) t.small))

      sizes-right : g.count ≤ k → SmallGroups m (groups_in m plan)
      sizes-right none = small m (groups_in m plan) few o.groups.count o.groups.sizes first none

    module _ {b : Bool} (lower : b ≡ lower_named g.named g.count) where
      needs-judged : b ≡ needs_first m (groups_in m plan)
      needs-judged =
          lower ∙ rw o.groups.count
          (lower-named-first m (groups_in m plan) valid all-machines g.named few o.groups.named)

      pub needs-wrong : b ≡ false → well_shaped m plan ≡ false
      needs-wrong f = test-fails m plan (λ t. true-false (needs-judged ∙ t.first) f)

      -- and the records, where the rest has passed
      pub shape-judged : {k : ℕ} → k ≡ first_large g.sizes g.count → g.count ≤ k → b ≡ true → {c : Bool}
          → c ≡ (tables_fit plan g.sizes starts g.count && ends_at plan (get_or starts g.count 0))
          → c ≡ well_shaped m plan
      unfolding well_shaped
      shape-judged first none passed records =
          let sizes = sizes-right first none in
          let places = rw o.groups.count at o.places in
          let judged : _ ≡ fits_records m (groups_in m plan) plan =
          records ∙ rw o.groups.count (records-same m (groups_in m plan) few sizes o.groups.sizes refl places plan) in
          let all_small = all-intro _ (up_to (group_count (groups_in m plan))) (λ k l. le-leb _ 64 (sizes k (up_to-below _ l))) in
          judged
          ∙ sym (rw (fit.shown, fit.no_gap, sym needs-judged ∙ passed, all_small) refl)

-- The numbers, as they are tested for a sheet, and the groups that are made of them
module _ {s : List ℕ} {x : Sheet} {m : Model} (i : Indexes s x m) (plan : List ℕ) {b : Bool}
    (told : b ≡ (has_record plan 0 16 x.machines && gapless (part plan 4 x.machines))) where
  told-model : b ≡ (has_record plan 0 16 (machine_count m) && gapless (groups_in m plan))
  unfolding groups_in
  told-model = rw (← indexes-machines i) told

  pub numbers-wrong : not b ≡ true → well_shaped m plan ≡ false
  numbers-wrong f =
      test-fails m plan (λ t. true-false (told-model ∙ and_intro t.numbers t.no_gap) (not-true b f))

  pub numbers-right : not b ≡ false → NumbersFit m plan
  numbers-right passed =
      let both = sym told-model ∙ not-false b passed in
      record { shown = and_left _ _ both; no_gap = and_right (has_record plan 0 16 (machine_count m)) _ both }

  module _ (passed : not b ≡ false) {numbers : List ℕ} (body : numbers ≡ body_at plan 0) where
    valid : Valid m
    valid = indexes-valid i

    fits : NumbersFit m plan
    fits = numbers-right passed

    are : numbers ≡ groups_in m plan
    are = body ∙ numbers-are valid fits

    pub numbers-below : Numbers x numbers
    numbers-below =
        rw are
        (record {
          one_each = all-machines valid fits ∙ sym (indexes-machines i);
          below = λ j h. omega (arith, group-below-count (groups_in m plan) j h, few valid fits);
        })

    module _ {g : Groups} (kept : Partitioned m numbers g) where
      groups-are : Partitioned m (groups_in m plan) g
      groups-are = rw are at kept

      pub count-few : g.count ≤ 32
      count-few = omega (arith, groups-are.count, few valid fits)

      pub outlined : {starts : List ℕ} → StartsAt g.sizes x.machines g.count starts → Outlined m plan g starts
      outlined begin = record { groups = groups-are; places = rw (indexes-machines i) at begin }
