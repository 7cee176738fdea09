-- Sums over the numbers of a list below a limit.
-- Assumes nothing.
use Prim.Native.Nat.{ℕ, suc, ◌+◌, ◌≤◌, ◌<◌}
use mathlib.Core.Path.{◌≡◌, ap}
use mathlib.Core.List.Memᴰ.{head}
use mathlib.Core.List.Memᴰ.{tail}
use mathlib.Core.List.{List, [], ◌∷◌, map, Memᴰ}
use native.Mathlib.Nat.{le_refl}
use native.Mathlib.Omega.{arith}
use borrow.Author.Tests.{ltb-true, ltb-false, lt-ltb, le-ltb}
use lib.Dec.{ltb}
use Rattle.common.specs.Lists.{filter, sum}
use Rattle.common.proofs.Bools.{by_cases}
use Rattle.common.proofs.Lists.{filter-keeps, filter-drops}
use Rattle.common.proofs.Sums.{sum-filter}

module _ (cost : ℕ → ℕ) where
  unfoldable pub sum_below : ℕ → List ℕ → ℕ
  sum_below g xs = sum (map cost (filter (λ b. ltb b g) xs))

  keeps : (g x : ℕ) (xs : List ℕ) → x < g → sum_below g (x ∷ xs) ≡ cost x + sum_below g xs
  unfolding sum_below sum
  keeps g x xs h = rw (filter-keeps (λ b. ltb b g) x xs (lt-ltb x g h))

  drops : (g x : ℕ) (xs : List ℕ) → g ≤ x → sum_below g (x ∷ xs) ≡ sum_below g xs
  unfolding sum_below
  drops g x xs h = rw (filter-drops (λ b. ltb b g) x xs (le-ltb x g h))

  grows : (c g x : ℕ) (xs : List ℕ) → c + sum_below g xs ≤ sum_below (suc g) xs
      → c + sum_below g (x ∷ xs) ≤ sum_below (suc g) (x ∷ xs)
  grows c g x xs i =
      by_cases (ltb x g)
      (λ t. let h = ltb-true x g t in omega (arith, keeps g x xs h, keeps (suc g) x xs (omega arith)))
      (λ f. by_cases (ltb x (suc g))
      (λ t. omega (arith, drops g x xs (ltb-false x g f), keeps (suc g) x xs (ltb-true x (suc g) t)))
      (λ e. omega (arith, drops g x xs (ltb-false x g f), drops (suc g) x xs (ltb-false x (suc g) e))))

  pub sum_below-up : (g : ℕ) (xs : List ℕ) → sum_below g xs ≤ sum_below (suc g) xs
  unfolding sum_below filter
  sum_below-up g [] = le_refl _
  sum_below-up g (x ∷ xs) = omega (arith, grows 0 g x xs (omega (arith, sum_below-up g xs)))

  pub sum_below-mem : {g : ℕ} {xs : List ℕ} → Memᴰ g xs → cost g + sum_below g xs ≤ sum_below (suc g) xs
  sum_below-mem {g = g} {xs = []} x'' = elim x'' [ ]
  sum_below-mem {g} {xs = x ∷ xs} (head e) =
      omega (arith, ap cost e, drops g x xs (omega arith), keeps (suc g) x xs (omega arith), sum_below-up g xs)
  sum_below-mem {g} {xs = x ∷ xs} (tail m) = grows (cost g) g x xs (sum_below-mem m)

  pub sum_below-le : (g : ℕ) (xs : List ℕ) → sum_below g xs ≤ sum (map cost xs)
  unfolding sum_below
  sum_below-le g xs = sum-filter cost (λ b. ltb b g) xs
