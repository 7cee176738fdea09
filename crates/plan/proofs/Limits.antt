-- What the tests 9 to 12 of planning tell, and the place of 9.
-- Assumes nothing.
use Prim.Native.Nat.{ℕ, ◌*◌, ◌≤◌, ◌<◌}
use mathlib.Core.Path.{◌≡◌}
use mathlib.Core.List.{map}
use mathlib.Core.Bool.{Bool, true, false, not}
use native.Mathlib.Omega.{arith}
use borrow.Author.Tests.{ltb-true, ltb-false, eqb-true, eqb-false, not-false}
use lib.Dec.{eqb}
use lib.ListN.{length}
use Rattle.common.specs.Lists.{up_to, any, find, sum, product}
use Rattle.common.proofs.Bools.{true-of-not-false, or-false-left, or-false-right}
use Rattle.common.proofs.Lists.{any_none, filter_none}
use Rattle.common.proofs.Search.{find-holds}
use Rattle.common.proofs.Members.{up_to-mem}
use Rattle.common.proofs.Search.{find-up_to-below, find-up_to-before}
use Rattle.sheet.specs.Model.{Model}
use Rattle.plan.specs.Groups.{Grouping, group_of, group_count, members, smallest_member}
use Rattle.plan.specs.Modes.{size}
use Rattle.plan.specs.Routes.{routes_upto}
use Rattle.plan.specs.Bound.{plan_bound}
use Rattle.plan.specs.Bytes.{plan_length}
use Rattle.plan.specs.Promised.{FirstLarge}
use Rattle.plan.specs.Planning.{large, large_group, large_place, large_plan, large_bound, wrong_buffer}

-- What each test tells

module _ (m : Model) (groups : Grouping) where
  pub no-large-group : large_group m groups ≡ false → (k : ℕ) → k < group_count groups → size m groups k ≤ 64
  unfolding large_group large
  no-large-group f k h = ltb-false 64 _ (any_none (large m groups) f (up_to-mem h))

  pub no-large-plan : large_plan m groups ≡ false
      → sum (map (λ k. size m groups k * size m groups k) (up_to (group_count groups))) ≤ 16384
  unfolding large_plan
  no-large-plan f = ltb-false 16384 _ f

  pub no-large-bound : large_bound m groups ≡ false → plan_bound m groups (routes_upto m groups (group_count groups)) ≤ 65535
  unfolding large_bound
  no-large-bound f = ltb-false 65535 _ f

  pub right-buffer : (buffer scratch : ℕ) → wrong_buffer m groups buffer scratch ≡ false → buffer ≡ plan_length m groups
  unfolding wrong_buffer
  right-buffer buffer scratch f = eqb-true _ _ (not-false _ (or-false-left _ _ f))

  pub right-scratch : (buffer scratch : ℕ) → wrong_buffer m groups buffer scratch ≡ false → 512 ≤ scratch
  unfolding wrong_buffer
  right-scratch buffer scratch f =
      ltb-false _ _ (or-false-right (not (eqb buffer (plan_length m groups))) _ f)

-- The place of 9

-- machine i is in group k
abbrev is_in_group : Grouping → ℕ → ℕ → Bool
is_in_group groups k i = eqb (group_of groups i) k

-- a group without a machine has one mode
memberless : (m : Model) (groups : Grouping) (k : ℕ) → any (is_in_group groups k) (up_to (length groups)) ≡ false
    → size m groups k ≡ 1
unfolding size members product
memberless m groups k f = rw (filter_none (is_in_group groups k) (up_to (length groups)) f)

pub large-place : (m : Model) (groups : Grouping) → large_group m groups ≡ true
    → FirstLarge m groups (large_place m groups)
unfolding large_group large_place large smallest_member
large-place m groups t =
    let k = find (large m groups) (up_to (group_count groups)) 0 in
    let big : 64 < size m groups k = ltb-true 64 _ (find-holds (large m groups) (up_to (group_count groups)) 0 t) in
    let some = true-of-not-false (λ f. let z = memberless m groups k f in omega arith) in
    let place = find (is_in_group groups k) (up_to (length groups)) 0 in
    record {
      group = k;
      present = find-up_to-below (large m groups) (group_count groups) 0 t;
      large = big;
      lower = λ j h. ltb-false 64 _ (find-up_to-before (large m groups) (group_count groups) 0 t j h);
      machine = find-up_to-below (is_in_group groups k) (length groups) 0 some;
      member = eqb-true _ k (find-holds (is_in_group groups k) (up_to (length groups)) 0 some);
      smallest = λ i e.
          let before = find-up_to-before (is_in_group groups k) (length groups) 0 some i in
          let n : ¬ (i < place) = λ h. eqb-false _ k (before h) e in
          omega arith;
    }
