-- A loop that tests the numbers below n, one after the other, and ends at the first that fails.
-- Assumes nothing.
use Prim.Native.Nat.{ℕ, ◌+◌, ◌≤◌, ◌<◌}
use mathlib.Core.Path.{◌≡◌, refl, sym, ap, ◌∙◌}
use mathlib.Core.List.{[], ◌∷◌}
use mathlib.Core.Bool.{Bool, true, false}
use native.Mathlib.Numerals.{add-one}
use native.Mathlib.Omega.{arith}
use Rattle.common.specs.Lists.{up_to, all}
use Rattle.common.proofs.Bools.{and_intro, true-false, false-of-not-true}
use Rattle.common.proofs.Lists.{all-at, all_append}
use Rattle.common.proofs.Members.{up_to-mem}

-- the numbers below k pass the test, and k is at most n
pub record Passed (p : ℕ → Bool) (n k : ℕ) : Type 0 where
  pub within : k ≤ n
  pub each : all p (up_to k) ≡ true

module _ (p : ℕ → Bool) (n : ℕ) where
  pub passed_none : Passed p n 0
  unfolding up_to all
  passed_none = record { within = omega arith; each = refl }

  pub passed-next : {k : ℕ} → Passed p n k → k < n → p k ≡ true → Passed p n (k + 1)
  unfolding up_to all
  passed-next {k} d h t =
      record {
        within = omega arith;
        each = rw add-one (all_append p (up_to k) (k ∷ []) ∙ and_intro d.each (and_intro t refl));
      }

  pub passed-all : {k : ℕ} → Passed p n k → n ≤ k → true ≡ all p (up_to n)
  passed-all {k} d h = sym (ap (λ j. all p (up_to j)) (omega (arith, d.within)) ∙ d.each)

  pub one-fails : {k : ℕ} → k < n → p k ≡ false → false ≡ all p (up_to n)
  one-fails h f = sym (false-of-not-true (λ t. true-false (all-at p t (up_to-mem h)) f))
