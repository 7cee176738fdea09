-- What the shape of 15 tells of a plan's groups: each machine has one of at most 32, and so have the moves.
-- Assumes nothing.
use Prim.Native.Nat.{ℕ, ◌≤◌, ◌<◌}
use mathlib.Core.Path.{◌≡◌}
use mathlib.Core.List.{List, Memᴰ}
use mathlib.Core.Bool.{true}
use native.Mathlib.Omega.{arith}
use lib.ListN.{length}
use Rattle.sheet.specs.Model.{Model, machine_count, move_at}
use Rattle.sheet.specs.Valid.{Valid}
use Rattle.plan.specs.Groups.{group_of, group_count, moves_of}
use Rattle.plan.specs.Reading.{groups_in, gapless, needs_first, well_shaped}
use Rattle.plan.proofs.ShapeTests.{shape-tests, numbers-long}
use Rattle.plan.proofs.Named.{group-below-count, moves-below, moves-group}
use Rattle.plan.proofs.NumbersUsed.{gapless-count}

module _ (m : Model) (plan : List ℕ) (shaped : well_shaped m plan ≡ true) where
  pub shape-gapless : gapless (groups_in m plan) ≡ true
  shape-gapless = ((shape-tests m plan).0 shaped).no_gap

  pub shape-first : needs_first m (groups_in m plan) ≡ true
  shape-first = ((shape-tests m plan).0 shaped).first

module _ (m : Model) (valid : Valid m) (plan : List ℕ) (shaped : well_shaped m plan ≡ true) where
  pub groups-length : length (groups_in m plan) ≡ machine_count m
  groups-length = numbers-long m plan ((shape-tests m plan).0 shaped)

  pub group-below : (i : ℕ) → i < machine_count m → group_of (groups_in m plan) i < group_count (groups_in m plan)
  group-below i h = group-below-count (groups_in m plan) i (omega (arith, groups-length))

  pub few-groups : group_count (groups_in m plan) ≤ 32
  few-groups =
      omega (arith, groups-length, gapless-count (groups_in m plan) (shape-gapless m plan shaped), valid.few-machines)

  pub move-below : (k v : ℕ) → Memᴰ v (moves_of m (groups_in m plan) k) → k < group_count (groups_in m plan)
  move-below k v h =
      let there = (valid.moves-valid v (moves-below m (groups_in m plan) k h)).present in
      omega (arith, moves-group m (groups_in m plan) k h, group-below (move_at m v).machine there)
