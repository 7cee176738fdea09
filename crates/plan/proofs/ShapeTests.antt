-- The test of a plan's shape, test by test.
-- Assumes nothing.
use Prim.Native.Nat.{ℕ, ◌+◌, ◌≤◌, ◌<◌}
use mathlib.Core.Path.{◌≡◌}
use mathlib.Core.Logic.{◌↔◌}
use mathlib.Core.List.{List}
use mathlib.Core.Bool.{Bool, true, ◌&&◌}
use borrow.Author.Tests.{eqb-true, eq-eqb, leb-true, le-leb}
use lib.Dec.{leb}
use lib.ListN.{length}
use Rattle.common.specs.Lists.{up_to, all}
use Rattle.common.proofs.Bools.{and_intro, and_left, and_right}
use Rattle.common.proofs.Lists.{all-at, all-intro}
use Rattle.common.proofs.Members.{up_to-mem, up_to-below}
use Rattle.sheet.specs.Model.{Model, machine_count}
use Rattle.sheet.proofs.Records.{part_length}
use Rattle.plan.specs.Groups.{Grouping, group_count}
use Rattle.plan.specs.Modes.{size}
use Rattle.plan.specs.Bytes.{table_length, table_at, plan_length}
use Rattle.plan.specs.Reading.{groups_in, has_record, gapless, needs_first, fits_records, well_shaped}
use Rattle.plan.proofs.Bytes.{shown-whole}

module _ (m : Model) (plan : List ℕ) where
  abbrev groups : Grouping
  groups = groups_in m plan

  abbrev count : ℕ
  count = group_count groups

  pub record ShapeTests : Type 0 where
    pub numbers : has_record plan 0 16 (machine_count m) ≡ true
    pub no_gap : gapless groups ≡ true
    pub first : needs_first m groups ≡ true
    pub small : (k : ℕ) → k < count → size m groups k ≤ 64
    pub tables : (k : ℕ) → k < count → has_record plan (table_at m groups k) 17 (table_length m groups k) ≡ true
    pub bound : has_record plan (table_at m groups count) 18 4 ≡ true
    pub end : has_record plan (table_at m groups count + 8) 3 0 ≡ true
    pub whole : length plan ≡ plan_length m groups

  -- the last four, and those before them
  abbrev tables_test : Bool
  tables_test = all (λ k. has_record plan (table_at m groups k) 17 (table_length m groups k)) (up_to count)

  abbrev bound_test : Bool
  bound_test = has_record plan (table_at m groups count) 18 4

  abbrev end_test : Bool
  end_test = has_record plan (table_at m groups count + 8) 3 0

  abbrev numbers_test : Bool
  numbers_test = has_record plan 0 16 (machine_count m)

  abbrev small_test : Bool
  small_test = all (λ k. leb (size m groups k) 64) (up_to count)

  tests-told : well_shaped m plan ≡ true → ShapeTests
  unfolding well_shaped fits_records
  tests-told t =
      let four = and_left _ _ t in
      let three = and_left _ _ four in
      let two = and_left _ _ three in
      let fit = and_right (numbers_test && gapless groups && needs_first m groups && small_test) _ t in
      let fit3 = and_left _ _ fit in
      let fit2 = and_left _ _ fit3 in
      let sizes = and_right (numbers_test && gapless groups && needs_first m groups) _ four in
      record {
        numbers = and_left _ _ two;
        no_gap = and_right numbers_test _ two;
        first = and_right (numbers_test && gapless groups) _ three;
        small = λ k h. leb-true _ 64 (all-at _ sizes (up_to-mem h));
        tables = λ k h. all-at _ (and_left _ _ fit2) (up_to-mem h);
        bound = and_right tables_test _ fit2;
        end = and_right (tables_test && bound_test) _ fit3;
        whole = eqb-true _ _ (and_right (tables_test && bound_test && end_test) _ fit);
      }

  tests-tell : ShapeTests → well_shaped m plan ≡ true
  unfolding well_shaped fits_records
  tests-tell s =
      and_intro
      (and_intro (and_intro (and_intro s.numbers s.no_gap) s.first)
      (all-intro _ (up_to count) (λ k l. le-leb _ 64 (s.small k (up_to-below count l)))))
      (and_intro
      (and_intro (and_intro (all-intro _ (up_to count) (λ k l. s.tables k (up_to-below count l))) s.bound) s.end)
      (eq-eqb _ _ s.whole))

  pub shape-tests : (well_shaped m plan ≡ true) ↔ ShapeTests
  shape-tests = (tests-told, tests-tell)

  -- a number for each machine
  pub numbers-long : ShapeTests → length groups ≡ machine_count m
  unfolding groups_in
  numbers-long t = part_length plan 4 (machine_count m) (shown-whole 16 (machine_count m) t.numbers).within
