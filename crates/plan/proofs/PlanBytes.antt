-- The plan of a sheet is a file of bytes.
-- Assumes nothing.
use Prim.Native.Nat.{ℕ, ◌/◌, ◌%◌, ◌<◌}
use mathlib.Core.Path.{◌≡◌, ◌∙◌}
use mathlib.Core.List.{[]}
use mathlib.Core.Bool.{true}
use native.Mathlib.Omega.{arith}
use borrow.Author.Tests.{lt-ltb}
use Rattle.common.specs.Lists.{up_to, all}
use Rattle.common.proofs.Lists.{all-intro}
use Rattle.common.proofs.Members.{mem_index, up_to-below}
use Rattle.common.proofs.Clear.{all-flat_map}
use Rattle.sheet.specs.Record.{byte, record_of}
use Rattle.sheet.specs.Model.{Model}
use Rattle.sheet.specs.Valid.{Valid}
use Rattle.sheet.proofs.SheetBytes.{is_byte, no_bytes, one-more-byte, two_are_bytes, both_bytes, record-bytes, records-bytes}
use Rattle.sheet.proofs.SheetBytes.{byte-of-bytes}
use Rattle.plan.specs.Groups.{group_count, groups_of}
use Rattle.plan.specs.Modes.{size}
use Rattle.plan.specs.Table.{table_of}
use Rattle.plan.specs.Bound.{plan_bound}
use Rattle.plan.specs.Bytes.{four_bytes, table_in, bytes_with}
use Rattle.plan.specs.Planning.{own_plan}
use Rattle.plan.specs.Promised.{SmallGroups}
use Rattle.plan.proofs.Groups.{group-below-machines}
use Rattle.plan.proofs.Routes.{all_routes}
use Rattle.plan.proofs.Usable.{own-ordered}
use Rattle.plan.proofs.EntryBytes.{entry-bytes}

four_are_bytes : (n : ℕ) → all is_byte (four_bytes n) ≡ true
unfolding four_bytes
four_are_bytes n = both_bytes _ _ (two_are_bytes (n % 65536)) (two_are_bytes (n / 65536))

module _ {m : Model} (valid : Valid m) (small : SmallGroups m (groups_of m)) where
  groups-bytes : all is_byte (groups_of m) ≡ true
  groups-bytes =
      all-intro is_byte (groups_of m) (λ x l.
      let (i, h, e) = mem_index 0 l in
      let b = group-below-machines m i (rw (own-ordered valid).all-machines at h) in
      lt-ltb x 256 (omega (arith, valid.few-machines)))

  table-bytes : (k : ℕ) → k < group_count (groups_of m)
      → all is_byte (table_in m (groups_of m) (all_routes m (groups_of m)) k) ≡ true
  unfolding table_in table_of
  table-bytes k h =
      let n = size m (groups_of m) k in
      all-flat_map is_byte _ (up_to n)
      ∙ all-intro _ (up_to n) (λ p i. all-flat_map is_byte _ (up_to n)
      ∙ all-intro _ (up_to n) (λ q j.
      let b = entry-bytes (own-ordered valid) h (small k h) p q (up_to-below n i) (up_to-below n j) in
      one-more-byte _ _ b.0 (one-more-byte _ _ b.1 no_bytes)))

  pub plan-is-bytes : (i : ℕ) → byte (own_plan m) i < 256
  unfolding own_plan bytes_with
  plan-is-bytes =
      let own = groups_of m in
      byte-of-bytes (own_plan m)
      (both_bytes _ (record_of 3 [])
      (both_bytes _ _
      (both_bytes _ _ (record-bytes 16 own groups-bytes)
      (records-bytes 17 (group_count own) (table_in m own (all_routes m own)) table-bytes))
      (record-bytes 18 _ (four_are_bytes (plan_bound m own (all_routes m own)))))
      (record-bytes 3 [] no_bytes))
