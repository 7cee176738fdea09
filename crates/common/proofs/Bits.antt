-- A byte as a set of modes: what "no mode at or past n" tells of its members, and the number that its members make.
-- Assumes nothing.
use Prim.Native.Nat.{ℕ, zero, suc, ◌+◌, ◌*◌, ◌/◌, ◌%◌, ◌^◌, ◌≤◌, ◌<◌}
use mathlib.Core.Path.{◌≡◌, refl, sym, ap, ◌∙◌}
use mathlib.Core.List.{map, map-append}
use mathlib.Core.Bool.{true, false, cond}
use native.Mathlib.Nat.{div-lt_iff_lt-mul, div-eq_of_lt, mod-eq_of_lt, mod-one}
use native.Mathlib.Omega.{arith}
use borrow.Author.Tests.{eqb-true, eqb-false, eq-eqb, not-false}
use lib.Dec.{eqb}
use lib.Pow.{pow_pos, pow_mono, mod-pow-add}
use Rattle.common.specs.Bits.{bit, beyond}
use Rattle.common.specs.Lists.{all, up_to, sum}
use Rattle.common.proofs.Bools.{by_cases, true-false, not-of-true}
use Rattle.common.proofs.Lists.{all-at}
use Rattle.common.proofs.Members.{up_to-mem}
use Rattle.common.proofs.Sums.{sum-append}

-- no mode at or past n: the number is below 2 ^ n
pub beyond-small : (n mask : ℕ) → beyond n mask ≡ false → mask < 2 ^ n
unfolding beyond
beyond-small n mask h =
    let e : mask / 2 ^ n ≡ 0 = eqb-true _ _ (not-false _ h) in
    omega (arith, (div-lt_iff_lt-mul {k = 2 ^ n} {x = mask} {y = 1} (pow_pos n)).0 (omega arith))

pub small-beyond : (n mask : ℕ) → mask < 2 ^ n → beyond n mask ≡ false
unfolding beyond
small-beyond n mask h = not-of-true (eq-eqb _ _ (div-eq_of_lt h))

pub bit_past : (mask m : ℕ) → mask < 2 ^ m → bit mask m ≡ false
unfolding bit
bit_past mask m h = rw (div-eq_of_lt h)

pub bit_below : (n mask m : ℕ) → beyond n mask ≡ false → bit mask m ≡ true → m < n
bit_below n mask m h b =
    let small = beyond-small n mask h in
    let k : ¬ (n ≤ m) = λ l. true-false b (bit_past mask m (omega (arith, pow_mono l))) in
    omega arith

-- without its highest mode the number is below the next smaller power
pub bit-top : (n mask : ℕ) → mask < 2 ^ suc n → bit mask n ≡ false → mask < 2 ^ n
unfolding bit beyond
bit-top n mask h f =
    let low : mask / 2 ^ n < 2 = (div-lt_iff_lt-mul {k = 2 ^ n} (pow_pos n)).1 (omega arith) in
    let none : mask / 2 ^ n ≡ 0 = omega (arith, eqb-false (mask / 2 ^ n % 2) 1 f) in
    beyond-small n mask (not-of-true (eq-eqb _ _ none))

-- a set with a mode, and none at or past n, has one below n
pub bit-some : (n mask : ℕ) → beyond n mask ≡ false → (mask ≡ 0 → ⊥) → (m : ℕ) × (m < n) × (bit mask m ≡ true)
bit-some zero mask h z = absurd (z (omega (arith, beyond-small 0 mask h)))
bit-some (suc n) mask h z =
    by_cases (bit mask n)
    (λ t. (n, omega arith, t))
    (λ f. let r = bit-some n mask (small-beyond n mask (bit-top n mask (beyond-small (suc n) mask h) f)) z in
    (r.0, omega arith, r.2))

-- the full byte holds every mode
pub bit-full : (m : ℕ) → m < 8 → bit 255 m ≡ true
unfolding bit all up_to
bit-full m h = all-at (bit 255) {xs = up_to 8} refl (up_to-mem h)

-- what mode i adds to the number
abbrev pub worth : ℕ → ℕ → ℕ
worth mask i = cond (bit mask i) (2 ^ i) 0

pub worth-digit : (mask i : ℕ) → worth mask i ≡ mask / 2 ^ i % 2 * 2 ^ i
unfolding bit
worth-digit mask i =
    let digit : ℕ = mask / 2 ^ i % 2 in
    by_cases (eqb digit 1)
    (λ t. let e = eqb-true digit 1 t in rw (t, e) (omega arith))
    (λ f. let e : digit ≡ 0 = omega (arith, eqb-false digit 1 f) in rw (f, e) (omega arith))

-- the modes below n make the number's remainder
pub worths-below : (n mask : ℕ) → sum (map (worth mask) (up_to n)) ≡ mask % 2 ^ n
unfolding sum up_to
worths-below zero mask = sym (mod-one mask)
worths-below (suc n) mask =
    let next : 2 ^ suc n ≡ 2 ^ (1 + n) = ap (λ k. 2 ^ k) (omega arith) in
    let digits = ap (λ k. mask % k) next ∙ mod-pow-add mask 1 n in
    rw (map-append, sum-append, worths-below n mask) (omega (arith, worth-digit mask n))

pub worths-make : (n mask : ℕ) → mask < 2 ^ n → mask ≡ sum (map (worth mask) (up_to n))
worths-make n mask h = sym (worths-below n mask ∙ mod-eq_of_lt h)
