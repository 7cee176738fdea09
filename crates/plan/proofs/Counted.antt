-- The moves that count as naming other groups: those of the group that a test tells.
--
-- Nothing else opens `counted`. Assumes nothing.
use Prim.Native.Nat.{ℕ}
use mathlib.Core.Path.{◌≡◌, refl}
use mathlib.Core.List.{List, Memᴰ}
use mathlib.Core.Bool.{Bool, true}
use Rattle.common.proofs.Lists.{all-intro, filter-mem, filter-from, filter-holds, filter-cong, filter-all}
use Rattle.sheet.specs.Model.{Model}
use Rattle.plan.specs.Groups.{moves_of}
use Rattle.plan.specs.Usable.{usable}
use Rattle.plan.specs.Routes.{usable_moves}
use Rattle.plan.specs.Reading.{groups_in, counted, every_move}

-- under a plan
module _ (m : Model) (plan : List ℕ) (counts : ℕ → Bool) (k : ℕ) where
  pub counted-moves : {v : ℕ} → Memᴰ v (counted m plan counts k) → Memᴰ v (moves_of m (groups_in m plan) k)
  unfolding counted
  counted-moves l = filter-from counts _ l

  pub counted-passes : {v : ℕ} → Memᴰ v (counted m plan counts k) → counts v ≡ true
  unfolding counted
  counted-passes l = filter-holds counts _ l

  pub moves-counted : {v : ℕ} → Memᴰ v (moves_of m (groups_in m plan) k) → counts v ≡ true
      → Memᴰ v (counted m plan counts k)
  unfolding counted
  moves-counted l t = filter-mem counts l t

-- by a test that tells the usable moves
pub counted-usable : (m : Model) (plan : List ℕ) (counts : ℕ → Bool) (joined : ℕ → ℕ → ℕ → Bool)
    → ((v : ℕ) → counts v ≡ usable m (groups_in m plan) joined v) → (k : ℕ)
    → counted m plan counts k ≡ usable_moves m (groups_in m plan) joined k
unfolding counted usable_moves
counted-usable m plan counts joined same k = filter-cong counts _ (moves_of m (groups_in m plan) k) (λ v l. same v)

-- where every move counts
pub counted-all : (m : Model) (plan : List ℕ) (k : ℕ) → counted m plan every_move k ≡ moves_of m (groups_in m plan) k
unfolding counted
counted-all m plan k =
    filter-all every_move (moves_of m (groups_in m plan) k) (all-intro every_move (moves_of m (groups_in m plan) k) (λ v l. refl))
