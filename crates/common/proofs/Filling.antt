-- A loop that fills an array from the front: what it writes at each place has a property there.
-- Assumes nothing.
use Prim.Native.Nat.{ℕ, ◌+◌, ◌≤◌, ◌<◌, zero-le}
use mathlib.Core.Path.{◌≡◌}
use mathlib.Core.Logic.{⊎_elim}
use mathlib.Core.List.{List}
use native.Mathlib.Nat.{not-suc-le-zero, eq-or-lt_of_le}
use native.Mathlib.Omega.{arith}
use lib.ListN.{length, get_or, set, length-set}
use lib.Seq.{get_or-set_same, get_or-set_other}

-- the places before i of an array, of which n are to be filled
pub record Filled (P : ℕ → ℕ → Type 0) (n i : ℕ) (r : List ℕ) : Type 0 where
  pub within : i ≤ n
  pub long : n ≤ length r
  pub each : (k : ℕ) → k < i → P k (get_or r k 0)

module _ (P : ℕ → ℕ → Type 0) {n : ℕ} where
  pub filled_none : {r : List ℕ} → n ≤ length r → Filled P n 0 r
  filled_none h = record { within = zero-le; long = h; each = λ k l. absurd (not-suc-le-zero l) }

  pub filled_next : {i x : ℕ} {r : List ℕ} → Filled P n i r → i < n → P i x → Filled P n (i + 1) (set r i x)
  filled_next {i} {x} {r} f h p =
      record {
        within = omega arith;
        long = rw length-set f.long;
        each = λ k l.
            ⊎_elim
            (λ (e : k ≡ i). rw (e, get_or-set_same r i x 0 (omega (arith, f.long))) p)
            (λ (b : k < i). rw (get_or-set_other r i k x 0 (omega arith)) (f.each k b))
            (eq-or-lt_of_le (omega arith));
      }

  pub filled-end : {i : ℕ} {r : List ℕ} → Filled P n i r → n ≤ i → (k : ℕ) → k < n → P k (get_or r k 0)
  filled-end f h k l = f.each k (omega arith)
