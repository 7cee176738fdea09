-- A byte written, and the digits of a number one after the other.
-- Assumes nothing.
use Prim.Native.Nat.{ℕ, zero, suc, ◌+◌, ◌-◌, ◌/◌, ◌%◌, ◌≤◌, ◌<◌}
use mathlib.Core.Path.{◌≡◌, refl, ap, ◌∙◌}
use mathlib.Core.List.{List, [], ◌∷◌, ◌++◌}
use native.Mathlib.Omega.{arith}
use native.Mathlib.Numerals.{add-one}
use borrow.Author.Tests.{lt-ltb, le-ltb}
use lib.ListN.{length, set, length-append}
use lib.Seq.{set_split}
use Rattle.sheet.specs.Kept.Written.{written}
use Rattle.sheet.proofs.Pieces.{Puts, puts_none, puts_then}
use Rattle.decimal.specs.Decimal.{digit, digits, decimal}

pub put_byte : (s : List ℕ) (at b : ℕ) → at < length s → Puts s at (b ∷ []) (at + 1) (set s at b)
unfolding written
put_byte s at b h = (refl, rw (add-one at) (set_split s at b h))

module _ (n : ℕ) where
  pub digits-none : {most : ℕ} → most ≡ 0 → digits most n ≡ []
  unfolding digits
  digits-none e = rw e refl

  pub digits_last : (most : ℕ) → 0 < most → n < 10 → digits most n ≡ digit (n % 10) ∷ []
  unfolding digits
  digits_last zero l h = absurd (omega (arith, l))
  digits_last (suc most) l h =
      let e : n % 10 ≡ n = omega arith in
      rw (lt-ltb _ _ h, e) refl

  pub digits_more : (most : ℕ) → 0 < most → 10 ≤ n → digits most n ≡ digits (most - 1) (n / 10) ++ (digit (n % 10) ∷ [])
  unfolding digits
  digits_more zero l h = absurd (omega (arith, l))
  digits_more (suc most) l h =
      let e : suc most - 1 ≡ most = omega arith in
      rw (le-ltb _ _ h, e) refl

module _ (s : List ℕ) (at n most : ℕ) where
  pub put-none : most ≡ 0 → Puts s at (digits most n) at s
  put-none e = rw (digits-none n e) (puts_none s at)

  module _ (some : most ≡ 0 → ⊥) where
    pub put_last : {end : ℕ} {out : List ℕ} → n < 10 → Puts s at (digit (n % 10) ∷ []) end out
        → Puts s at (digits most n) end out
    put_last h r = rw (digits_last n most (omega arith) h) r

    pub put-more : {mid end : ℕ} {front out : List ℕ} → 10 ≤ n → at + length (digits most n) ≤ length s
        → Puts s at (digits (most - 1) (n / 10)) mid front → Puts front mid (digit (n % 10) ∷ []) end out
        → Puts s at (digits most n) end out
    put-more h room first last =
        rw (digits_more n most (omega arith) h) (puts_then s at _ _ (omega arith) first last)

-- there is room for the digits before the last, and then for the last
module _ (at n most : ℕ) (some : most ≡ 0 → ⊥) {size : ℕ} (room : at + length (digits most n) ≤ size) where
  pub room-last : n < 10 → at < size
  room-last h = omega (arith, ap length (digits_last n most (omega arith) h))

  module _ (h : 10 ≤ n) where
    abbrev more : List ℕ
    more = digits (most - 1) (n / 10)

    both_long : length (digits most n) ≡ length more + 1
    both_long = ap length (digits_more n most (omega arith) h) ∙ length-append more (digit (n % 10) ∷ [])

    pub room-more : at + length more ≤ size
    room-more = omega (arith, both_long)

    pub room-then : {end after : ℕ} → end ≡ at + length more → after ≡ size → end < after
    room-then e same = omega (arith, both_long)

-- Numbers of one digit and of two

module _ (n : ℕ) where
  pub one-digit : n < 10 → decimal n ≡ digit (n % 10) ∷ []
  unfolding decimal
  one-digit h = digits_last n 5 (omega arith) h

  pub two-digits-are : 10 ≤ n → n < 100 → decimal n ≡ (digit (n / 10 % 10) ∷ []) ++ (digit (n % 10) ∷ [])
  unfolding decimal
  two-digits-are h l =
      digits_more n 5 (omega arith) h
      ∙ ap (λ front. front ++ (digit (n % 10) ∷ [])) (digits_last (n / 10) 4 (omega arith) (omega arith))

module _ (s : List ℕ) (at n : ℕ) where
  pub put_one : {end : ℕ} {out : List ℕ} → n < 10 → Puts s at (digit (n % 10) ∷ []) end out
      → Puts s at (decimal n) end out
  put_one h r = rw (one-digit n h) r

  pub put_two : {mid end : ℕ} {front out : List ℕ} → 10 ≤ n → n < 100 → at + length (decimal n) ≤ length s
      → Puts s at (digit (n / 10 % 10) ∷ []) mid front → Puts front mid (digit (n % 10) ∷ []) end out
      → Puts s at (decimal n) end out
  put_two h l room first last = rw (two-digits-are n h l) (puts_then s at _ _ (omega arith) first last)

module _ (at n : ℕ) {size : ℕ} (room : at + length (decimal n) ≤ size) where
  pub room-one : n < 10 → at < size
  room-one h = omega (arith, ap length (one-digit n h))

  module _ (h : 10 ≤ n) (l : n < 100) where
    pub room-first : at < size
    room-first = omega (arith, ap length (two-digits-are n h l))

    pub room-second : {end after : ℕ} → end ≡ at + 1 → after ≡ size → end < after
    room-second e same = omega (arith, ap length (two-digits-are n h l))
