-- Where the tables of a plan begin, by the capped sizes of its groups: the loop that computes it, and that it is
-- `table_at` where no group is large. Then the tests of the records are those of the shape.
-- Assumes nothing.
use Prim.Native.Nat.{ℕ, ◌+◌, ◌*◌, ◌≤◌, ◌<◌}
use mathlib.Core.Path.{◌≡◌, sym, ap, ap₂, ◌∙◌}
use mathlib.Core.List.{List, map, map-append}
use mathlib.Core.Bool.{◌&&◌, and_assoc}
use native.Mathlib.Numerals.{add-one}
use native.Mathlib.Omega.{arith}
use lib.ListN.{get_or, set, replicate}
use Rattle.common.specs.Lists.{up_to, all, sum, pad}
use Rattle.common.proofs.Lists.{all-cong, map-cong}
use Rattle.common.proofs.Members.{up_to-below, get_or-map-up_to}
use Rattle.common.proofs.Pad.{get_or-pad, pad-nil}
use Rattle.common.proofs.Sums.{sum-append}
use Rattle.sheet.specs.Model.{Model, machine_count}
use Rattle.plan.specs.Groups.{Grouping, group_count}
use Rattle.plan.specs.Bytes.{table_length, table_at, plan_length}
use Rattle.plan.specs.Reading.{has_record, fits_records}
use Rattle.plan.specs.Promised.{SmallGroups}
use Rattle.plan.specs.Kept.Sizes.{capped_sizes}
use Rattle.plan.specs.Kept.Outline.{table_bytes, start_at, StartsAt, tables_fit, ends_at}
use Rattle.plan.proofs.ArrayLoops.{fills-map}
use Rattle.plan.proofs.LengthLaws.{size-kept}

module _ (sizes : List ℕ) (n : ℕ) where
  start_first : start_at sizes n 0 ≡ 4 + n
  unfolding start_at up_to sum
  start_first = omega arith

  start-next : (k : ℕ) → start_at sizes n (k + 1) ≡ start_at sizes n k + (4 + table_bytes (get_or sizes k 0))
  unfolding start_at up_to sum
  start-next k = rw (add-one, map-append, sum-append) (omega arith)

  -- The loop: the places of the first k records stand in r, and the next begins at a place

  pub record StartsUpto (at k : ℕ) (r : List ℕ) : Type 0 where
    pub place : at ≡ start_at sizes n k
    pub small : at ≤ 36 + 130054 * k
    pub array : r ≡ pad 33 (map (start_at sizes n) (up_to k))

  pub starts_none : {at : ℕ} → n ≤ 32 → at ≡ 4 + n → StartsUpto at 0 (replicate 33 0)
  unfolding up_to
  starts_none few e = record { place = e ∙ sym start_first; small = omega arith; array = sym (pad-nil 33) }

  pub starts-next : {at k t : ℕ} {r : List ℕ} → StartsUpto at k r → k < 32 → t ≡ table_bytes (get_or sizes k 0)
      → t ≤ 130050 → StartsUpto (at + (4 + t)) (k + 1) (set r k at)
  starts-next {k = k} s h e b =
      record {
        place = rw e (sym (start-next k ∙ rw (← s.place)));
        small = omega (arith, s.small);
        array = fills-map 33 (start_at sizes n) s.array (omega arith) s.place;
      }

  pub starts-end : {at k count : ℕ} {r : List ℕ} → StartsUpto at k r → k ≡ count → count ≤ 32
      → StartsAt sizes n count (set r count at)
  starts-end {at} {k} {count} {r} s e few =
      let whole : set r count at ≡ pad 33 (map (start_at sizes n) (up_to (count + 1)))
      = rw (← e) (fills-map 33 (start_at sizes n) s.array (omega arith) s.place) in
      record {
        each = λ j l.
            let b : j < count + 1 = omega arith in
            rw (whole, get_or-pad) (get_or-map-up_to (start_at sizes n) 0 b);
      }

-- Where no group is large

module _ (m : Model) (groups : Grouping) (few : group_count groups ≤ 32) (small : SmallGroups m groups) where
  bytes-kept : (k : ℕ) → k < group_count groups → table_bytes (get_or (capped_sizes m groups) k 0) ≡ table_length m groups k
  unfolding table_bytes table_length
  bytes-kept k h = rw (size-kept m groups few small k h)

  starts-kept : (k : ℕ) → k ≤ group_count groups
      → start_at (capped_sizes m groups) (machine_count m) k ≡ table_at m groups k
  unfolding start_at table_at
  starts-kept k h =
      ap (λ l. 4 + machine_count m + sum l)
      (map-cong _ (λ a. 4 + table_length m groups a) (up_to k) (λ a l.
      ap (λ n. 4 + n) (bytes-kept a (let b = up_to-below k l in omega arith))))

  module _ {sizes starts : List ℕ} {n : ℕ} (are : sizes ≡ capped_sizes m groups)
      (all-machines : n ≡ machine_count m) (begin : StartsAt sizes n (group_count groups) starts) where
    pub starts-are : (k : ℕ) → k ≤ group_count groups → get_or starts k 0 ≡ table_at m groups k
    starts-are k h = begin.each k h ∙ rw (are, all-machines) (starts-kept k h)

    module _ (plan : List ℕ) where
      tables-same : tables_fit plan sizes starts (group_count groups)
          ≡ all (λ k. has_record plan (table_at m groups k) 17 (table_length m groups k)) (up_to (group_count groups))
      unfolding tables_fit
      tables-same =
          all-cong _ _ (up_to (group_count groups)) (λ k l.
          let h = up_to-below (group_count groups) l in
          ap₂ (λ at len. has_record plan at 17 len) (starts-are k (omega arith)) (rw are (bytes-kept k h)))

      pub records-same :
          (tables_fit plan sizes starts (group_count groups) && ends_at plan (get_or starts (group_count groups) 0))
          ≡ fits_records m groups plan
      unfolding ends_at fits_records plan_length
      records-same =
          rw (tables-same, starts-are (group_count groups) (omega arith)) (simp and_assoc)
