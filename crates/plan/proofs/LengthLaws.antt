-- The length of a plan, from the capped sizes: where no group is large they are the sizes, and the plan's length is 16
-- bytes, one for each machine, four for each group and two for each entry.
-- Assumes nothing.
use Prim.Native.Nat.{ℕ, ◌+◌, ◌*◌, ◌≤◌, ◌<◌}
use mathlib.Core.Path.{◌≡◌, refl, sym, ap, ◌∙◌}
use mathlib.Core.List.{List, [], ◌∷◌, map}
use mathlib.Core.Bool.{Bool, true, false}
use native.Mathlib.Omega.{arith}
use lib.Dec.{ltb}
use lib.ListN.{length, get_or}
use Rattle.common.specs.Lists.{up_to, any, find, sum}
use Rattle.common.specs.Reply.{given, refused, fault}
use Rattle.common.proofs.Bools.{true-of-not-false, false-of-not-true}
use Rattle.common.proofs.Lists.{any-cong, map-cong}
use Rattle.common.proofs.Members.{up_to-below, length-up_to, get_or-map-up_to}
use Rattle.common.proofs.Search.{find_none, find-holds, find-up_to-is, find-up_to-below, find-up_to-before}
use Rattle.common.proofs.Reply.{first-refuses, unless-clear}
use Rattle.sheet.specs.Model.{Model, machine_count}
use Rattle.plan.specs.Groups.{Grouping, group_count, smallest_member}
use Rattle.plan.specs.Modes.{size}
use Rattle.plan.specs.Bytes.{table_length, table_at, plan_length}
use Rattle.plan.specs.Promised.{SmallGroups, squares}
use Rattle.plan.specs.Planning.{large, large_group, large_place, size_faults}
use Rattle.plan.specs.Kept.Sizes.{capped, capped_sizes, first_large, entries_of}
use Rattle.plan.specs.Kept.Making.{length_with}
use Rattle.plan.proofs.CappedSizes.{capped_small, capped-test}
use Rattle.plan.proofs.Limits.{no-large-group}
use Rattle.plan.proofs.Replies.{plan-large, plan-small}

-- each table has a header of four bytes, and two bytes for each entry
pub sum-tables : (f : ℕ → ℕ) (xs : List ℕ) → sum (map (λ k. 4 + 2 * f k) xs) ≡ 4 * length xs + 2 * sum (map f xs)
unfolding sum
sum-tables f [] = refl
sum-tables f (x ∷ xs) = omega (arith, sum-tables f xs)

pub plan-length-is : (m : Model) (groups : Grouping)
    → plan_length m groups ≡ 16 + machine_count m + 4 * group_count groups + 2 * squares m groups
unfolding plan_length table_at table_length
plan-length-is m groups =
    let n = group_count groups in
    omega (arith, sum-tables (λ k. size m groups k * size m groups k) (up_to n), length-up_to n)

module _ (m : Model) (groups : Grouping) (few : group_count groups ≤ 32) where
  abbrev all : List ℕ
  all = up_to (group_count groups)

  pub capped_at : {k : ℕ} → k < group_count groups → get_or (capped_sizes m groups) k 0 ≡ capped (size m groups k)
  unfolding capped_sizes
  capped_at {k} h = let b : k < 32 = omega arith in get_or-map-up_to (λ j. capped (size m groups j)) 0 b

  -- where no group is large, the capped sizes are the sizes
  pub size-kept : SmallGroups m groups → (k : ℕ) → k < group_count groups
      → get_or (capped_sizes m groups) k 0 ≡ size m groups k
  size-kept small k h = capped_at h ∙ capped_small (size m groups k) (omega (arith, small k h))

  -- a group is large by its capped size exactly if it is large
  abbrev is_large : ℕ → Bool
  is_large k = ltb 64 (get_or (capped_sizes m groups) k 0)

  large-capped : (k : ℕ) → k < group_count groups → is_large k ≡ large m groups k
  unfolding large
  large-capped k h = ap (ltb 64) (capped_at h) ∙ capped-test (size m groups k)

  pub large-tests : any is_large all ≡ large_group m groups
  unfolding large_group
  large-tests = any-cong is_large (large m groups) all (λ k l. large-capped k (up_to-below _ l))

  entries-are : SmallGroups m groups → entries_of (capped_sizes m groups) (group_count groups) ≡ squares m groups
  unfolding entries_of
  entries-are small =
      ap sum (map-cong _ _ all (λ k l. rw (size-kept small k (up_to-below (group_count groups) l))))

  -- what the code computes: the number of groups, their capped sizes, and the first large group
  module _ {n k : ℕ} {sizes : List ℕ} (count : n ≡ group_count groups) (are : sizes ≡ capped_sizes m groups)
      (first : k ≡ first_large sizes n) where
    first-is : k ≡ find is_large all (group_count groups)
    unfolding first_large
    first-is = rw (are, count) at first

    pub some-large : k < n → any is_large all ≡ true
    some-large h =
        true-of-not-false (λ f. omega (arith, first-is, find_none is_large all (group_count groups) f))

    none-large : n ≤ k → any is_large all ≡ false
    none-large h =
        false-of-not-true
        (λ t. omega (arith, first-is, find-up_to-below is_large (group_count groups) (group_count groups) t))

    place_is : k < n → large_place m groups ≡ smallest_member groups k
    unfolding large_place
    place_is h =
        let t = some-large h in
        let l : k < group_count groups = omega arith in
        ap (smallest_member groups)
        (find-up_to-is (large m groups) 0 k l
        (sym (large-capped k l) ∙ ap is_large first-is ∙ find-holds is_large all (group_count groups) t)
        (λ j b.
        sym (large-capped j (omega arith))
        ∙ find-up_to-before is_large (group_count groups) (group_count groups) t j (omega (arith, first-is))))

    pub length-large : {p : ℕ} → k < n → p ≡ smallest_member groups k → refused 9 p ≡ length_with m groups
    unfolding length_with size_faults
    length-large {p} h e =
        rw (e, ← place_is h) (sym (first-refuses [] (fault 9 _ _) _ _ tt (sym large-tests ∙ some-large h)))

    pub small : n ≤ k → SmallGroups m groups
    small h = no-large-group m groups (sym large-tests ∙ none-large h)

    module _ {cells : ℕ} (h : n ≤ k) (entries : cells ≡ entries_of sizes n) where
      cells_are : cells ≡ squares m groups
      cells_are = entries ∙ rw (are, count) (entries-are (small h))

      pub length-many : 16384 < cells → refused 10 0 ≡ length_with m groups
      unfolding length_with size_faults
      length-many l =
          sym (first-refuses (fault 9 _ _ ∷ []) (fault 10 0 _) _ _ (sym large-tests ∙ none-large h, tt)
          (plan-large m groups (omega (arith, cells_are))))

      pub length-fits : cells ≤ 16384 → length groups ≡ machine_count m
          → given (16 + length groups + 4 * n + 2 * cells) ≡ length_with m groups
      unfolding length_with size_faults
      length-fits l same =
          ap given (omega (arith, plan-length-is m groups, cells_are))
          ∙ sym
          (unless-clear _ _ (sym large-tests ∙ none-large h, (plan-small m groups (omega (arith, cells_are)), tt)))
