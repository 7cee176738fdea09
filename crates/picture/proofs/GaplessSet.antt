-- A set of the numbers below some number.
-- Assumes nothing.
use Prim.Native.Nat.{ℕ, ◌+◌, ◌-◌, ◌^◌, ◌≤◌, ◌<◌}
use mathlib.Core.Path.{◌≡◌, sym, ap, ◌∙◌}
use mathlib.Core.Bool.{true, false}
use native.Mathlib.Omega.{arith}
use borrow.Author.Tests.{lt-ltb, ltb-true}
use lib.Dec.{ltb}
use lib.Pow.{pow_mono, pow_pos}
use Rattle.common.specs.Bits.{bit}
use Rattle.common.proofs.Bools.{true-false}
use Rattle.sets.specs.Kept.Sets.{below}
use Rattle.sets.proofs.Digits.{same_bits}
use Rattle.sets.proofs.Laws.{bit-none, bit-first}
use Rattle.picture.specs.Kept.Matched.{Below}

first_fits : (n : ℕ) → n ≤ 64 → below n < 2 ^ 64
unfolding below
first_fits n l = omega (arith, pow_mono l, pow_pos n)

pub gapless-none : {s : ℕ} → s ≡ 0 → (m : ℕ) → 0 < m → m ≤ 64 → ((i : ℕ) → bit s i ≡ ltb i m) → ⊥
gapless-none e m some few h = true-false (h 0 ∙ lt-ltb 0 m some) (rw e (bit-none 0))

-- one more than the greatest
module _ {s top n : ℕ} (small : s < 2 ^ 64) (has : bit s top ≡ true) (no_more : (j : ℕ) → top < j → bit s j ≡ false)
    (e : n ≡ below (top + 1)) where
  only_one : (m : ℕ) → 0 < m → ((i : ℕ) → bit s i ≡ ltb i m) → top + 1 ≡ m
  only_one m some h =
      let top_below = ltb-true top m (sym (h top) ∙ has) in
      let n : ¬ (top < m - 1) = λ l. true-false (h (m - 1) ∙ lt-ltb (m - 1) m (omega arith)) (no_more (m - 1) l) in
      omega arith

  pub gapless-is : s ≡ n → Below s (top + 1)
  gapless-is same =
      record {
        some = omega arith;
        bits = λ i. rw (same ∙ e) (bit-first (top + 1) i);
        only = λ m some few h. only_one m some h;
      }

  pub gapless-not : top < 64 → (s ≡ n → ⊥) → (m : ℕ) → 0 < m → m ≤ 64 → ((i : ℕ) → bit s i ≡ ltb i m) → ⊥
  gapless-not l differs m some few h =
      let e' = only_one m some h in
      differs (same_bits 64 small (rw e (first_fits (top + 1) (omega arith)))
      (λ i k. h i ∙ ap (ltb i) (sym e') ∙ sym (bit-first (top + 1) i) ∙ ap (λ x. bit x i) (sym e)))
