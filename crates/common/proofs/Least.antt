-- What can be decided of numbers: equality, membership, and among those below a limit with a property the least by f.
-- Assumes nothing.
use Prim.Native.Nat.{ℕ, zero, suc, ◌≤◌, ◌<◌}
use mathlib.Core.Path.{◌≡◌, refl, sym, ap, ◌∙◌}
use mathlib.Core.Logic.{◌⊎◌, inl, inr, ⊎_elim}
use mathlib.Core.List.{List, Memᴰ}
use mathlib.Core.Bool.{Bool, true, false}
use native.Mathlib.Nat.{not-suc-le-zero, eq-or-lt_of_le, le_of_suc-le-suc}
use native.Mathlib.Omega.{arith}
use borrow.Author.Tests.{ltb-true, ltb-false, eqb-true, eqb-false, eq-eqb}
use lib.Dec.{ltb, eqb}
use Rattle.common.specs.Lists.{any}
use Rattle.common.proofs.Bools.{by_cases, true-false, bool-ext}
use Rattle.common.proofs.Lists.{any_some, any-intro}

pub equal_or_not : (a b : ℕ) → (a ≡ b) ⊎ (a ≡ b → ⊥)
equal_or_not a b = by_cases (eqb a b) (λ t. inl (eqb-true a b t)) (λ f. inr (eqb-false a b f))

pub eqb_swap : (a b : ℕ) → eqb a b ≡ eqb b a
eqb_swap a b = bool-ext (λ t. eq-eqb b a (sym (eqb-true a b t))) (λ t. eq-eqb a b (sym (eqb-true b a t)))

pub last-or-below : {u n : ℕ} → u < suc n → (u ≡ n) ⊎ (u < n)
last-or-below h = eq-or-lt_of_le (le_of_suc-le-suc h)

pub mem-or-not : (a : ℕ) (xs : List ℕ) → Memᴰ a xs ⊎ (Memᴰ a xs → ⊥)
mem-or-not a xs =
    by_cases (any (eqb a) xs)
    (λ t. let r = any_some (eqb a) xs t in inl (rw (eqb-true a r.0 r.2) r.1))
    (λ f. inr (λ m. true-false (any-intro (eqb a) m (eq-eqb a a refl)) f))

-- Of the numbers below n with a property, one where f is least, if there is any

module _ (p : ℕ → Bool) (f : ℕ → ℕ) where
  pub record Least (n : ℕ) : Type 0 where
    pub least : ℕ
    pub below : least < n
    pub holds : p least ≡ true
    pub at_most : (u : ℕ) → u < n → p u ≡ true → f least ≤ f u

  none-or-least : (n : ℕ) → ((u : ℕ) → u < n → p u ≡ false) ⊎ Least n
  none-or-least zero = inl (λ u h. absurd (not-suc-le-zero h))
  none-or-least (suc n) =
      by_cases (p n)
      (λ t.
      ⊎_elim
      (λ none. inr (alone t none))
      (λ l. inr (by_cases (ltb (f n) (f l.least))
      (λ c. last t l (ltb-true _ _ c))
      (λ c. kept l (λ e. ltb-false _ _ c))))
      (none-or-least n))
      (λ e.
      ⊎_elim
      (λ none. inl (λ u h. ⊎_elim (λ i. ap p i ∙ e) (λ i. none u i) (last-or-below h)))
      (λ l. inr (kept l (λ t. absurd (true-false t e))))
      (none-or-least n))
    where
      alone : p n ≡ true → ((u : ℕ) → u < n → p u ≡ false) → Least (suc n)
      alone t none =
          record {
            least = n;
            below = omega arith;
            holds = t;
            at_most = λ u h c. ⊎_elim (λ i. rw i (omega arith)) (λ i. absurd (true-false c (none u i))) (last-or-below h);
          }

      last : p n ≡ true → (l : Least n) → f n < f l.least → Least (suc n)
      last t l c =
          record {
            least = n;
            below = omega arith;
            holds = t;
            at_most = λ u h e. ⊎_elim (λ i. rw i (omega arith)) (λ i. omega (arith, l.at_most u i e)) (last-or-below h);
          }

      kept : (l : Least n) → (p n ≡ true → f l.least ≤ f n) → Least (suc n)
      kept l c =
          record {
            least = l.least;
            below = omega (arith, l.below);
            holds = l.holds;
            at_most = λ u h e. ⊎_elim (λ i. rw i (c (sym (ap p i) ∙ e))) (λ i. l.at_most u i e) (last-or-below h);
          }

  pub least-of : {q n : ℕ} → q < n → p q ≡ true → Least n
  least-of {q} {n} h t = ⊎_elim (λ none. absurd (true-false t (none q h))) (λ l. l) (none-or-least n)
