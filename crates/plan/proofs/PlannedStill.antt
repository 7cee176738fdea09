-- The plan beside the one whose bound counts every move: its bound is no larger, all before the bound is the same, and no sheet
-- that would be accepted then is refused.
-- Assumes nothing.
use Prim.Native.Nat.{ℕ, ◌<◌}
use mathlib.Core.Path.{◌≡◌, sym, ◌∙◌}
use mathlib.Core.List.{[], ◌++◌}
use native.Mathlib.Omega.{arith}
use lib.ListN.{length, length-append, get_or-append}
use Rattle.sheet.specs.Record.{byte, record_of}
use Rattle.sheet.specs.Model.{Model}
use Rattle.plan.specs.Groups.{group_count, groups_of}
use Rattle.plan.specs.Bytes.{four_bytes, table_at, bytes_with}
use Rattle.plan.specs.Planning.{own_plan}
use Rattle.plan.specs.Promised.{PlannedStill, bound_by_all, plan_by_all}
use Rattle.plan.specs.Kept.Making.{tables_upto}
use Rattle.plan.proofs.Laid.{laid-length}
use Rattle.plan.proofs.Planning.{length-groups_of, length-own_plan}
use Rattle.plan.proofs.PlanWritten.{front_length}
use Rattle.plan.proofs.ReadBack.{plan-laid}
use Rattle.plan.proofs.Replies.{replied}
use Rattle.plan.proofs.Routes.{all_routes}
use Rattle.plan.proofs.SetBounds.{usable-count}

module _ (m : Model) where
  -- before the bound stand the group numbers and the tables, whatever the bound
  before-bound : (bound i : ℕ) → i < table_at m (groups_of m) (group_count (groups_of m))
      → byte (bytes_with m (groups_of m) bound (all_routes m (groups_of m))) i
      ≡ byte (record_of 16 (groups_of m) ++ tables_upto m (group_count (groups_of m))) i
  unfolding bytes_with tables_upto
  before-bound bound i h =
      let tables = tables_upto m (group_count (groups_of m)) in
      let front = record_of 16 (groups_of m) ++ tables in
      let bounded = record_of 18 (four_bytes bound) in
      let here : i < length front
      = omega (arith, length-append (record_of 16 (groups_of m)) tables, front_length m (group_count (groups_of m))) in
      get_or-append (front ++ bounded) (record_of 3 []) 0 i (omega (arith, length-append front bounded))
      ∙ get_or-append front bounded 0 i here

  tables-kept : (i : ℕ) → i < table_at m (groups_of m) (group_count (groups_of m)) → byte (own_plan m) i ≡ byte (plan_by_all m) i
  unfolding own_plan
  tables-kept i h = before-bound _ i h ∙ sym (before-bound (bound_by_all m) i h)

pub planned-still : PlannedStill
planned-still sheet d e =
    let m = d.model in
    let own = groups_of m in
    let fewer = usable-count m own (all_routes m own) in
    record {
      never-larger = fewer;
      as_long = length-own_plan m ∙ sym (laid-length (plan-laid m own (all_routes m own) (length-groups_of m) (bound_by_all m)));
      tables-kept = tables-kept m;
      accepted = λ buffer scratch s q b.
          (replied sheet d buffer scratch e).accepted s q (omega (arith, fewer, b));
    }
