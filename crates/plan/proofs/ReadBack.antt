-- The plan that is written from a grouping, its routes and a bound, read back: its groups, its entries and its bound.
-- Assumes nothing.
use Prim.Native.Nat.{ℕ, ◌<◌}
use mathlib.Core.Path.{◌≡◌, ◌∙◌}
use mathlib.Core.List.{List, [], append_assoc}
use lib.ListN.{length, get_or}
use Rattle.common.specs.Graph.{Matrix}
use Rattle.sheet.specs.Model.{Model, machine_count}
use Rattle.plan.specs.Groups.{Grouping, group_count}
use Rattle.plan.specs.Modes.{size}
use Rattle.plan.specs.Routes.{usable_moves}
use Rattle.plan.specs.Table.{entry_of}
use Rattle.plan.specs.Bytes.{four_bytes, table_in, bytes_with, table_length}
use Rattle.plan.specs.Usable.{joined_by}
use Rattle.plan.specs.Reading.{entry_at, bound_in}
use Rattle.plan.proofs.Bytes.{length-four_bytes, four_bytes-read}
use Rattle.plan.proofs.Tables.{length-table_of, entry_in-table_of}
use Rattle.plan.proofs.Laid.{Laid, entry_read, bound-read}

module _ (m : Model) (groups : Grouping) (routes : List Matrix) (n : length groups ≡ machine_count m) (bound : ℕ) where
  length-table_in : (k : ℕ) → length (table_in m groups routes k) ≡ table_length m groups k
  unfolding table_in
  length-table_in k = length-table_of m groups k _ _

  pub plan-laid : Laid m groups (bytes_with m groups bound routes)
  unfolding bytes_with
  plan-laid =
      record {
        table = table_in m groups routes;
        bound = four_bytes bound;
        records = simp append_assoc;
        numbers-all = n;
        table-length = λ k h. length-table_in k;
        bound-length = length-four_bytes bound;
      }

  pub entry-back : (k p q : ℕ) → k < group_count groups → p < size m groups k → q < size m groups k
      → entry_at m (bytes_with m groups bound routes) k p q
      ≡ entry_of m groups k (usable_moves m groups (joined_by routes) k) (get_or routes k []) p q
  unfolding plan-laid table_in
  entry-back k p q h i j =
      entry_read plan-laid k p q h
      ∙ entry_in-table_of m groups k (usable_moves m groups (joined_by routes) k) (get_or routes k []) p q i j

  pub bound-back : bound < 4294967296 → bound_in m (bytes_with m groups bound routes) ≡ bound
  unfolding plan-laid
  bound-back h = bound-read plan-laid ∙ four_bytes-read bound h
