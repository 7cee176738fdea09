-- Numbers that stop at a limit: the limit of a part is lost in the limit of the whole, be that a sum or a product. What
-- stops at one more than c is above c exactly if the number is.
-- Assumes nothing.
use Prim.Native.Nat.{ℕ, zero, suc, ◌+◌, ◌*◌, ◌≤◌, min}
use mathlib.Core.Path.{◌≡◌, refl, sym, ap, ◌∙◌}
use mathlib.Core.List.{List, [], ◌∷◌, map}
use native.Mathlib.Nat.{mul_comm, mul-zero, mul-le-mul_right}
use native.Mathlib.Omega.{arith}
use borrow.Author.Tests.{leb-true, leb-false, lt-ltb, le-ltb}
use lib.Dec.{leb, ltb}
use Rattle.common.specs.Lists.{sum}
use Rattle.common.proofs.Bools.{by_cases}

module _ (c : ℕ) where
  pub cap-small : {a : ℕ} → a ≤ c → min a c ≡ a
  cap-small h = omega arith

  cap-large : {a : ℕ} → c ≤ a → min a c ≡ c
  cap-large h = omega arith

  pub cap-product : (a b : ℕ) → min (min a c * b) c ≡ min (a * b) c
  cap-product a zero = simp mul-zero
  cap-product a (suc b) =
      by_cases (leb a c)
      (λ t. rw (cap-small (leb-true a c t)))
      (λ f.
      let h : c ≤ a = omega (arith, leb-false a c f) in
      let l : c ≤ c * suc b = omega arith in
      let g : c ≤ a * suc b = omega (arith, mul-le-mul_right (suc b) h) in
      rw (cap-large h) (cap-large l ∙ sym (cap-large g)))

  pub cap-sum-of : {A : Type 0} (f : A → ℕ) (xs : List A)
      → min (sum (map (λ x. min (f x) c) xs)) c ≡ min (sum (map f xs)) c
  unfolding sum
  cap-sum-of f [] = refl
  cap-sum-of f (x ∷ xs) = omega (arith, cap-sum-of f xs)

  -- a product with one more than a sum
  pub cap-rule : {A : Type 0} (n : ℕ) (f : A → ℕ) (xs : List A)
      → min (n * (1 + sum (map (λ x. min (f x) c) xs))) c ≡ min (n * (1 + sum (map f xs))) c
  cap-rule n f xs =
      let s = 1 + sum (map (λ x. min (f x) c) xs) in
      let t = 1 + sum (map f xs) in
      let e : min s c ≡ min t c = omega (arith, cap-sum-of f xs) in
      ap (λ a. min a c) (mul_comm n s)
      ∙ sym (cap-product s n)
      ∙ ap (λ a. min (a * n) c) e
      ∙ cap-product t n
      ∙ ap (λ a. min a c) (mul_comm t n)

pub cap-test : (c a : ℕ) → ltb c (min a (suc c)) ≡ ltb c a
cap-test c a =
    by_cases (leb a c)
    (λ t. let h = leb-true a c t in le-ltb c (min a (suc c)) (omega arith) ∙ sym (le-ltb c a h))
    (λ f. let h = leb-false a c f in lt-ltb c (min a (suc c)) (omega arith) ∙ sym (lt-ltb c a h))
