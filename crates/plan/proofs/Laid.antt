-- A plan laid out record by record: where each record stands, what is read there, and that it passes the tests of its
-- shape.
-- Assumes nothing.
use Prim.Native.Nat.{ℕ, ◌+◌, ◌≤◌, ◌<◌}
use mathlib.Core.Path.{◌≡◌, refl, ap, subst, ◌∙◌}
use mathlib.Core.List.{List, [], ◌++◌, map, flat_map}
use mathlib.Core.Bool.{true}
use native.Mathlib.Nat.{mul-le-mul}
use native.Mathlib.Omega.{arith}
use lib.ListN.{length, length-append}
use Rattle.common.specs.Lists.{up_to, sum}
use Rattle.common.proofs.Lists.{map-cong}
use Rattle.common.proofs.Members.{up_to-below}
use Rattle.common.proofs.Sums.{length-flat_map}
use Rattle.common.proofs.Places.{Stands, stands-whole, stands-moved, stands-left, stands-right, stands_at}
use Rattle.common.proofs.Places.{stands-flat_map}
use Rattle.sheet.specs.Record.{record_of}
use Rattle.sheet.specs.Model.{Model, machine_count}
use Rattle.sheet.proofs.Written.{length-record_of, stands-body, body-read}
use Rattle.plan.specs.Groups.{Grouping, group_count}
use Rattle.plan.specs.Modes.{size}
use Rattle.plan.specs.Bytes.{table_length, table_at, plan_length}
use Rattle.plan.specs.Reading.{groups_in, table_of_group, entry_in, entry_at, gapless, needs_first, bound_in}
use Rattle.plan.proofs.Bytes.{number_in, record-shown}
use Rattle.plan.proofs.ShapeTests.{ShapeTests}

-- the records of a plan with these group numbers, one after the other
pub record Laid (m : Model) (groups : Grouping) (plan : List ℕ) : Type 0 where
  pub table : ℕ → List ℕ
  pub bound : List ℕ
  pub records : plan ≡ record_of 16 groups
      ++ (flat_map (λ k. record_of 17 (table k)) (up_to (group_count groups)) ++ (record_of 18 bound ++ record_of 3 []))
  pub numbers-all : length groups ≡ machine_count m
  pub table-length : (k : ℕ) → k < group_count groups → length (table k) ≡ table_length m groups k
  pub bound-length : length bound ≡ 4

module _ {m : Model} {groups : Grouping} {plan : List ℕ} (l : Laid m groups plan) where
  abbrev count : ℕ
  count = group_count groups

  -- the kind 17 record of group k
  table_record : ℕ → List ℕ
  table_record k = record_of 17 (l.table k)

  abbrev ends : List ℕ
  ends = record_of 18 l.bound ++ record_of 3 []

  -- Where each record stands

  place-table_at : (k : ℕ) → k ≤ count
      → length (record_of 16 groups) + sum (map (λ a. length (table_record a)) (up_to k)) ≡ table_at m groups k
  unfolding table_at table_record
  place-table_at k h =
      let same = map-cong (λ a. length (table_record a)) (λ a. 4 + table_length m groups a) (up_to k) (λ a i.
      let b = up_to-below k i in
      length-record_of 17 (l.table a) ∙ ap (λ n. 4 + n) (l.table-length a (omega arith))) in
      omega (arith, length-record_of 16 groups, l.numbers-all, ap sum same)

  all-stand : Stands plan 0 (record_of 16 groups ++ (flat_map table_record (up_to count) ++ ends))
  unfolding table_record
  all-stand = subst (Stands plan 0) l.records (stands-whole plan)

  groups-stand : Stands plan 0 (record_of 16 groups)
  groups-stand = stands-left (record_of 16 groups) _ all-stand

  behind-groups : Stands plan (length (record_of 16 groups)) (flat_map table_record (up_to count) ++ ends)
  behind-groups = stands-moved (stands-right (record_of 16 groups) _ all-stand) (omega arith)

  table-stands : (k : ℕ) → k < count → Stands plan (table_at m groups k) (table_record k)
  table-stands k h =
      stands-moved (stands-flat_map table_record count k h (stands-left _ ends behind-groups))
      (place-table_at k (omega arith))

  ends-stand : Stands plan (table_at m groups count) ends
  ends-stand =
      stands-moved (stands-right (flat_map table_record (up_to count)) ends behind-groups)
      (omega (arith, length-flat_map table_record (up_to count), place-table_at count (omega arith)))

  bound-stands : Stands plan (table_at m groups count) (record_of 18 l.bound)
  bound-stands = stands-left (record_of 18 l.bound) _ ends-stand

  end-stands : Stands plan (table_at m groups count + 8) (record_of 3 [])
  end-stands =
      stands-moved (stands-right (record_of 18 l.bound) (record_of 3 []) ends-stand)
      (omega (arith, length-record_of 18 l.bound, l.bound-length))

  pub laid-length : length plan ≡ plan_length m groups
  unfolding plan_length table_record
  laid-length =
      omega (
        arith,
        ap length l.records,
        length-append (record_of 16 groups) (flat_map table_record (up_to count) ++ ends),
        length-append (flat_map table_record (up_to count)) ends,
        length-append (record_of 18 l.bound) (record_of 3 []),
        length-flat_map table_record (up_to count),
        place-table_at count (omega arith),
        length-record_of 18 l.bound,
        l.bound-length,
        length-record_of 3 [],
      )

  -- What is read there

  pub groups-read : groups_in m plan ≡ groups
  unfolding groups_in
  groups-read = rw (← l.numbers-all) (body-read 16 groups groups-stand)

  pub table-read : (k : ℕ) → k < count → table_of_group m groups plan k ≡ l.table k
  unfolding table_of_group table_record
  table-read k h = rw (← l.table-length k h) (body-read 17 (l.table k) (table-stands k h))

  pub entry_read : (k p q : ℕ) → k < count → entry_at m plan k p q ≡ entry_in (l.table k) (size m groups k) p q
  unfolding entry_at
  entry_read k p q h = rw (groups-read, table-read k h)

  pub bound-read : bound_in m plan ≡ number_in l.bound
  unfolding bound_in
  bound-read =
      let w = stands-body 18 l.bound bound-stands in
      let four = l.bound-length in
      let at : ℕ = table_at m groups count + 4 in
      rw groups-read
      (omega (
        arith,
        stands_at w 0 at 0 (omega arith) (omega arith),
        stands_at w 1 (at + 1) 0 (omega arith) (omega arith),
        stands_at w 2 (at + 2) 0 (omega arith) (omega arith),
        stands_at w 3 (at + 3) 0 (omega arith) (omega arith),
      ))

  -- Its shape

  module _ (few : machine_count m ≤ 32) (small : (k : ℕ) → k < count → size m groups k ≤ 64) where
    table_fits : (k : ℕ) → k < count → table_length m groups k < 65536
    unfolding table_length
    table_fits k h = omega (arith, mul-le-mul (small k h) (small k h))

    pub laid-tests : gapless groups ≡ true → needs_first m groups ≡ true → ShapeTests m plan
    unfolding table_record
    laid-tests g f =
        record {
          numbers = record-shown 16 groups groups-stand l.numbers-all (omega arith) (omega arith);
          no_gap = rw groups-read g;
          first = rw groups-read f;
          small = rw groups-read small;
          tables = rw groups-read (λ k h.
              record-shown 17 (l.table k) (table-stands k h) (l.table-length k h) (table_fits k h) (omega arith));
          bound = rw groups-read
              (record-shown 18 l.bound bound-stands l.bound-length (omega arith) (omega arith));
          end = rw groups-read (record-shown 3 [] end-stands refl (omega arith) (omega arith));
          whole = rw groups-read laid-length;
        }
