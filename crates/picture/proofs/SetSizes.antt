-- How many members a set has, and how many digits they have together.
-- Assumes nothing.
use Prim.Native.Nat.{ℕ, zero, suc, ◌+◌, ◌/◌, ◌^◌, ◌≤◌, ◌<◌}
use mathlib.Core.Path.{◌≡◌, refl, sym, ap, ◌∙◌}
use mathlib.Core.List.{map}
use mathlib.Core.Bool.{cond}
use native.Mathlib.Omega.{arith}
use lib.Count.{ones, ones_step}
use lib.ListN.{length}
use lib.Pow.{shr_lt}
use Rattle.common.specs.Bits.{bit}
use Rattle.common.specs.Lists.{up_to, sum}
use Rattle.common.proofs.Bools.{by_cases}
use Rattle.common.proofs.Lists.{map-cong}
use Rattle.common.proofs.Members.{up_to-below}
use Rattle.common.proofs.Sums.{sum-next, sum-those, sum-constant}
use Rattle.decimal.specs.Decimal.{decimal}
use Rattle.decimal.proofs.Putting.{one-digit, two-digits-are}
use Rattle.sets.specs.Kept.Sets.{lowered, elements}
use Rattle.sets.proofs.Digits.{num, bit-suc, mod-num, half-below}
use Rattle.sets.proofs.Laws.{bit-lowered}
use Rattle.sets.proofs.Members.{length-elements}

-- the members below k
abbrev ones_below : ℕ → ℕ → ℕ
ones_below s k = sum (map (λ i. cond (bit s i) 1 0) (up_to k))

sum-front : (f : ℕ → ℕ) (k : ℕ) → sum (map f (up_to (suc k))) ≡ f 0 + sum (map (λ i. f (suc i)) (up_to k))
unfolding sum up_to
sum-front f zero = refl
sum-front f (suc k) = omega (arith, sum-next f (suc k), sum-front f k, sum-next (λ i. f (suc i)) k)

low_digit : (s : ℕ) → num (bit s 0) ≡ cond (bit s 0) 1 0
low_digit s = by_cases (bit s 0) (λ t. rw t refl) (λ f. rw f refl)

ones-counted : (k : ℕ) {s : ℕ} → s < 2 ^ k → ones s ≡ ones_below s k
unfolding ones sum up_to
ones-counted zero {s} h = let e : s ≡ 0 = omega arith in rw e refl
ones-counted (suc k) {s} h =
    let later : sum (map (λ i. cond (bit s (suc i)) 1 0) (up_to k)) ≡ ones_below (s / 2) k
    = ap sum (map-cong _ _ (up_to k) (λ i m. ap (λ b. cond b 1 0) (bit-suc s i))) in
    omega (
      arith,
      ones_step s,
      mod-num s,
      low_digit s,
      ones-counted k {s = s / 2} (half-below k h),
      later,
      sum-front (λ i. cond (bit s i) 1 0) k,
    )

members-counted : (s : ℕ) → length (elements s) ≡ ones_below s 64
unfolding elements
members-counted s =
    omega (arith, sum-constant (λ i. 1) 1 (elements s) (λ i m. refl), sum-those (λ i. 1) (bit s) (up_to 64))

pub size_is : (s : ℕ) → s < 2 ^ 64 → ones s ≡ length (elements s)
size_is s h = ones-counted 64 h ∙ sym (members-counted s)

pub size_small : (s : ℕ) → s < 2 ^ 64 → ones s ≤ 64
size_small s h = omega (arith, size_is s h, length-elements s)

-- how many digits a number has
abbrev pub width : ℕ → ℕ
width i = length (decimal i)

width_one : (i : ℕ) → i < 10 → width i ≡ 1
width_one i h = ap length (one-digit i h)

width_two : (i : ℕ) → 10 ≤ i → i < 100 → width i ≡ 2
width_two i h l = ap length (two-digits-are i h l)

abbrev widths : ℕ → ℕ → ℕ
widths s k = sum (map (λ i. cond (bit s i) (width i) 0) (up_to k))

widths-counted : (s n : ℕ) → n ≤ 54 → widths s (10 + n) ≡ ones_below s (10 + n) + ones_below (lowered s 10) n
unfolding sum up_to
widths-counted s zero h =
    let same : widths s 10 ≡ ones_below s 10
    = ap sum (map-cong _ _ (up_to 10) (λ i m. ap (λ w. cond (bit s i) w 0) (width_one i (up_to-below 10 m)))) in
    omega (arith, same)
widths-counted s (suc n) h =
    let e : 10 + suc n ≡ suc (10 + n) = omega arith in
    rw e
    (omega (
      arith,
      widths-counted s n (omega arith),
      sum-next (λ i. cond (bit s i) (width i) 0) (10 + n),
      sum-next (λ i. cond (bit s i) 1 0) (10 + n),
      sum-next (λ i. cond (bit (lowered s 10) i) 1 0) n,
      last,
    ))
  where
    last : cond (bit s (10 + n)) (width (10 + n)) 0 ≡ cond (bit s (10 + n)) 1 0 + cond (bit (lowered s 10) n) 1 0
    last =
        rw (bit-lowered s 10 n)
        (by_cases (bit s (10 + n))
        (λ t. rw t (width_two (10 + n) (omega arith) (omega arith)))
        (λ f. rw f refl))

widths-are : (s : ℕ) → s < 2 ^ 64
    → length (elements s) + length (elements (lowered s 10)) ≡ sum (map width (elements s))
unfolding elements lowered
widths-are s h =
    let low : lowered s 10 < 2 ^ 54 = shr_lt 54 10 h in
    omega (
      arith,
      members-counted s,
      members-counted (lowered s 10),
      ones-counted 64 {s = lowered s 10} (omega arith),
      ones-counted 54 {s = lowered s 10} low,
      widths-counted s 54 (omega arith),
      sum-those width (bit s) (up_to 64),
    )

pub digits-counted : (s : ℕ) {low x y : ℕ} → s < 2 ^ 64 → x ≡ length (elements s) → low ≡ lowered s 10
    → y ≡ length (elements low) → x + y ≡ sum (map width (elements s))
digits-counted s h ex el ey = rw (ex, ey, el) (widths-are s h)
