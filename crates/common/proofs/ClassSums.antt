-- Sums class by class.
-- Assumes nothing.
use Prim.Native.Nat.{ℕ, zero, suc, ◌+◌, ◌≤◌, zero-le}
use mathlib.Core.List.{List, map}
use mathlib.Core.Bool.{cond}
use native.Mathlib.Nat.{le_refl}
use native.Mathlib.Omega.{arith}
use borrow.Author.Tests.{ltb-true, lt-ltb, eqb-true, ne_eqb}
use lib.Dec.{eqb, ltb}
use Rattle.common.specs.Lists.{up_to, filter, sum}
use Rattle.common.proofs.Bools.{by_cases}
use Rattle.common.proofs.Sums.{sum_mono, sum-add, sum-those, sum-next}

-- over the members of each class: each number is in one class at most
module _ (f class : ℕ → ℕ) (xs : List ℕ) where
  abbrev of_class : ℕ → ℕ
  of_class k = sum (map f (filter (λ i. eqb (class i) k) xs))

  abbrev below : ℕ → ℕ → ℕ
  below c i = cond (ltb (class i) c) (f i) 0

  below_next : (c i : ℕ) → below c i + cond (eqb (class i) c) (f i) 0 ≤ below (suc c) i
  below_next c i =
      by_cases (ltb (class i) c)
      (λ t.
      let l = ltb-true (class i) c t in
      rw (t, ne_eqb (class i) c (omega arith), lt-ltb (class i) (suc c) (omega arith)) (omega arith))
      (λ k.
      by_cases (eqb (class i) c)
      (λ t. let e = eqb-true (class i) c t in rw (k, t, lt-ltb (class i) (suc c) (omega arith)) (omega arith))
      (λ n. rw (k, n) zero-le))

  classes-below : (c : ℕ) → sum (map of_class (up_to c)) ≤ sum (map (below c) xs)
  unfolding sum up_to
  classes-below zero = zero-le
  classes-below (suc c) =
      let one : ℕ → ℕ = λ i. cond (eqb (class i) c) (f i) 0 in
      omega (
        arith,
        sum-next of_class c,
        sum-those f (λ i. eqb (class i) c) xs,
        classes-below c,
        sum-add (below c) one xs,
        sum_mono (λ i. below c i + one i) (below (suc c)) xs (λ i m. below_next c i),
      )

  pub classes-sum : (c : ℕ) → sum (map of_class (up_to c)) ≤ sum (map f xs)
  classes-sum c =
      let less : (i : ℕ) → below c i ≤ f i = λ i.
      by_cases (ltb (class i) c) (λ t. rw t (le_refl _)) (λ k. rw k zero-le) in
      omega (arith, classes-below c, sum_mono (below c) f xs (λ i m. less i))
