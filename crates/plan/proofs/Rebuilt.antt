-- A plan of bytes that passes the tests of shape is laid out record by record.
-- Assumes nothing.
use Prim.Native.Nat.{ℕ, zero, suc, ◌+◌, ◌≤◌, ◌<◌}
use mathlib.Core.Path.{◌≡◌, refl, sym, ap, ◌∙◌}
use mathlib.Core.List.{List, [], ◌++◌, flat_map, map-append, append_assoc, append-nil}
use native.Mathlib.Omega.{arith}
use lib.ListN.{length, drop}
use lib.Seq.{drop-length}
use Rattle.common.specs.Lists.{up_to, sum}
use Rattle.common.proofs.Sums.{sum-append, flat_map-up_to-suc}
use Rattle.sheet.specs.Record.{byte, part, record_of}
use Rattle.sheet.specs.Model.{Model, machine_count}
use Rattle.sheet.proofs.Records.{part_length}
use Rattle.plan.specs.Groups.{Grouping, group_count}
use Rattle.plan.specs.Bytes.{table_length, table_at, plan_length}
use Rattle.plan.specs.Reading.{groups_in, table_of_group}
use Rattle.plan.proofs.Bytes.{shown-whole, record-rebuilt}
use Rattle.plan.proofs.ShapeTests.{ShapeTests, numbers-long}
use Rattle.plan.proofs.Laid.{Laid}

-- a table's record begins behind the one before it
table_at-next : (m : Model) (groups : Grouping) (k : ℕ)
    → table_at m groups (suc k) ≡ table_at m groups k + 4 + table_length m groups k
unfolding table_at up_to sum
table_at-next m groups k = rw (map-append, sum-append) (omega arith)

module _ (m : Model) (plan : List ℕ) (bytes : (i : ℕ) → byte plan i < 256) (t : ShapeTests m plan) where
  abbrev groups : Grouping
  groups = groups_in m plan

  abbrev count : ℕ
  count = group_count groups

  table_record : ℕ → List ℕ
  table_record k = record_of 17 (table_of_group m groups plan k)

  tables-rebuilt : (k : ℕ) → k ≤ count
      → drop (table_at m groups 0) plan ≡ flat_map table_record (up_to k) ++ drop (table_at m groups k) plan
  unfolding up_to flat_map table_record table_of_group
  tables-rebuilt zero h = refl
  tables-rebuilt (suc k) h =
      tables-rebuilt k (omega arith)
      ∙ ap (λ l. flat_map table_record (up_to k) ++ l)
      (record-rebuilt plan bytes (table_at m groups k) 17 (table_length m groups k) (table_at m groups (suc k))
      (t.tables k h) (table_at-next m groups k))
      ∙ sym (append_assoc (flat_map table_record (up_to k)) (table_record k) (drop (table_at m groups (suc k)) plan))
      ∙ ap (λ l. l ++ drop (table_at m groups (suc k)) plan) (sym (flat_map-up_to-suc table_record k))

  groups-rebuilt : plan ≡ record_of 16 groups ++ drop (table_at m groups 0) plan
  unfolding groups_in table_at up_to sum
  groups-rebuilt =
      record-rebuilt plan bytes 0 16 (machine_count m) (table_at m groups 0) t.numbers (omega arith)

  bound_part : List ℕ
  bound_part = part plan (table_at m groups count + 4) 4

  bound-rebuilt : drop (table_at m groups count) plan ≡ record_of 18 bound_part ++ drop (table_at m groups count + 8) plan
  unfolding bound_part
  bound-rebuilt =
      record-rebuilt plan bytes (table_at m groups count) 18 4 (table_at m groups count + 8) t.bound (omega arith)

  end-rebuilt : drop (table_at m groups count + 8) plan ≡ record_of 3 []
  unfolding part plan_length
  end-rebuilt =
      record-rebuilt plan bytes (table_at m groups count + 8) 3 0 (length plan) t.end (omega (arith, t.whole))
      ∙ ap (λ l. record_of 3 [] ++ l) (drop-length plan) ∙ append-nil (record_of 3 [])

  pub plan-rebuilt : Laid m groups plan
  unfolding table_record bound_part table_of_group
  plan-rebuilt =
      record {
        table = table_of_group m groups plan;
        bound = bound_part;
        records =
            groups-rebuilt
            ∙ ap (λ l. record_of 16 groups ++ l) (tables-rebuilt count (omega arith)
            ∙ ap (λ l. flat_map table_record (up_to count) ++ l) (bound-rebuilt
            ∙ ap (λ l. record_of 18 bound_part ++ l) end-rebuilt));
        numbers-all = numbers-long m plan t;
        table-length = λ k h.
            part_length plan _ _ (shown-whole 17 (table_length m groups k) (t.tables k h)).within;
        bound-length = part_length plan _ 4 (shown-whole 18 4 t.bound).within;
      }
