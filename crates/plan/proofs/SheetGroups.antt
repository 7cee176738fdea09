-- The steps of `groups` together: from the index of a sheet to the sheet's own grouping.
-- Assumes nothing.
use Prim.Native.Nat.{ℕ, ◌≤◌}
use mathlib.Core.Path.{◌≡◌, sym, ◌∙◌}
use mathlib.Core.List.{List}
use native.Mathlib.Omega.{arith}
use lib.ListN.{take}
use Rattle.common.specs.Graph.{distances}
use Rattle.search.specs.Kept.Search.{Holds}
use Rattle.sheet.specs.declared.index.Sheet.{Sheet}
use Rattle.sheet.specs.Model.{Model, machine_count}
use Rattle.sheet.specs.Kept.Indexed.{Indexed}
use Rattle.sheet.proofs.Indexed.{indexes-valid, indexes-machines}
use Rattle.plan.specs.Needs.{need_graph}
use Rattle.plan.specs.Groups.{numbered_upto, groups_of}
use Rattle.plan.specs.Kept.MachineSets.{ReachSets, MutualSets, OutsideSets, Grouped}
use Rattle.plan.proofs.Needs.{length-need_graph}
use Rattle.plan.proofs.GroupSets.{mutual-together}

pub few-machines : {s : List ℕ} {x : Sheet} → Indexed s x → x.machines ≤ 32
few-machines (m, i) = omega (arith, indexes-machines i, (indexes-valid i).few-machines)

pub machines-fit : {s : List ℕ} {x : Sheet} → Indexed s x → x.machines ≤ 64
machines-fit x = omega (arith, few-machines x)

module _ (m : Model) {n : ℕ} (same : n ≡ machine_count m) where
  pub groups-kept : {next reach groups outside : List ℕ} → Holds (need_graph m) next → ReachSets next n reach
      → MutualSets reach n groups → OutsideSets next groups n outside → Grouped (need_graph m) n groups outside
  groups-kept {next} k reached both needs =
      let size = length-need_graph m ∙ sym same in
      record {
        size = size;
        next = next;
        holds = k;
        group = mutual-together (need_graph m) size k reached both;
        needs = needs;
      }

  pub groups-taken : (r : List ℕ) → take n r ≡ numbered_upto (need_graph m) (distances (need_graph m)) n
      → take (machine_count m) r ≡ groups_of m
  unfolding groups_of
  groups-taken r e = rw (← same) e
