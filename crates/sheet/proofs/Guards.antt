-- The needs of a move, where its body writes them.
-- Assumes nothing.
use Prim.Native.Nat.{ℕ, ◌+◌, ◌-◌, ◌*◌, ◌/◌, ◌<◌}
use mathlib.Core.Path.{◌≡◌}
use mathlib.Core.List.{List}
use native.Mathlib.Omega.{arith}
use lib.ListN.{length}
use Rattle.common.proofs.Members.{get_or-map-up_to, length-map-up_to}
use Rattle.sheet.specs.Record.{byte}
use Rattle.sheet.specs.Model.{guard, guard_at, move_of}

pub guard-count : (body : List ℕ) → length (move_of body).guards ≡ (length body - 4) / 2
unfolding move_of
guard-count body = length-map-up_to (λ n. guard (byte body (4 + 2 * n)) (byte body (5 + 2 * n))) _

module _ (body : List ℕ) (n : ℕ) (here : 2 * n + 5 < length body) where
  pub guard-here : guard_at (move_of body) n ≡ guard (byte body (4 + 2 * n)) (byte body (5 + 2 * n))
  unfolding move_of
  guard-here = get_or-map-up_to (λ k. guard (byte body (4 + 2 * k)) (byte body (5 + 2 * k))) _ (omega arith)
