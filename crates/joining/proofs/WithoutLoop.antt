-- The loop that looks for the first machine that is left without a mode.
-- Assumes nothing.
use Prim.Native.Nat.{ℕ, ◌+◌, ◌≤◌, ◌<◌, zero-le}
use mathlib.Core.Path.{◌≡◌, sym}
use mathlib.Core.List.{List}
use native.Mathlib.Omega.{arith}
use borrow.Author.Count.{below_none, below_more}
use borrow.Author.Tests.{eq-eqb, ne_eqb}
use lib.Dec.{eqb}
use lib.ListN.{get_or}
use Rattle.common.specs.Lists.{up_to, find}
use Rattle.common.proofs.Search.{find-up_to-is, find-up_to-none}

-- the machines before i, of n, have a mode left
pub record LeftBefore (masks : List ℕ) (n i : ℕ) : Type 0 where
  pub inside : i ≤ n
  pub each : (j : ℕ) → j < i → get_or masks j 0 ≡ 0 → ⊥

module _ {masks : List ℕ} {n : ℕ} where
  pub left-none : LeftBefore masks n 0
  left-none = record { inside = zero-le; each = below_none _ }

  module _ {i : ℕ} (left : LeftBefore masks n i) where
    pub left-next : i < n → (get_or masks i 0 ≡ 0 → ⊥) → LeftBefore masks n (i + 1)
    left-next l h = record { inside = omega arith; each = below_more _ i left.each h }

    pub without-found : i < n → get_or masks i 0 ≡ 0 → i ≡ find (λ j. eqb (get_or masks j 0) 0) (up_to n) n
    without-found l h =
        sym (find-up_to-is (λ j. eqb (get_or masks j 0) 0) n i l (eq-eqb _ _ h) (λ j b. ne_eqb _ _ (left.each j b)))

    pub without-missing : n ≤ i → n ≡ find (λ j. eqb (get_or masks j 0) 0) (up_to n) n
    without-missing l =
        sym (find-up_to-none (λ j. eqb (get_or masks j 0) 0) n (λ j b. ne_eqb _ _ (left.each j (omega arith))))
