-- What is read at a place of a text: no number, or one whose digits come one after the other.
-- Assumes nothing.
use Prim.Native.Nat.{ℕ, suc, ◌+◌, ◌*◌, ◌-◌, ◌/◌, ◌%◌, ◌≤◌, ◌<◌}
use mathlib.Core.Path.{◌≡◌, refl, sym, ap, ◌∙◌}
use mathlib.Core.List.{List, [], ◌∷◌, ◌++◌, append_assoc}
use mathlib.Core.Bool.{true, false, ◌&&◌, and-true}
use native.Mathlib.Omega.{arith}
use native.Mathlib.Numerals.{add-one}
use borrow.Author.Tests.{ltb-true, ltb-false, eqb-true, eqb-false}
use lib.Dec.{eqb, ltb}
use lib.ListN.{length, get_or, drop, get_or-append, get_or-eq_default}
use lib.Seq.{drop-cons, get_or-drop}
use Rattle.common.proofs.Bools.{by_cases, true-false}
use Rattle.common.proofs.Lists.{all-at}
use Rattle.common.proofs.Members.{mem-get_or}
use Rattle.decimal.specs.Decimal.{digit, decimal, is_digit, starts_with, read_number}
use Rattle.decimal.specs.Kept.Digits.{Starts}
use Rattle.decimal.specs.Meaning.{Begins}
use Rattle.decimal.proofs.Digits.{digit-within, decimal-digits, some-digit, no-leading-zero, digits-enough}
use Rattle.decimal.proofs.Exact.{no-digit-at, no-digit-from, read-written, read-begins, read-at-most, read-too-large}
use Rattle.decimal.proofs.Putting.{digits_more, one-digit, two-digits-are}
use Rattle.decimal.proofs.Standing.{byte-stands}

-- behind a text there is no digit
pub no-digit-past : (text : List ℕ) {at : ℕ} → length text ≤ at → false ≡ is_digit (get_or text at 0)
unfolding is_digit
no-digit-past text h = rw (get_or-eq_default text 0 h) refl

-- where a digit stands the text has not ended
pub digit-inside : (text : List ℕ) (at : ℕ) → is_digit (get_or text at 0) ≡ true → at < length text
digit-inside text at t =
    by_cases (ltb at (length text)) (ltb-true at (length text))
    (λ f. absurd (true-false t (sym (no-digit-past text (ltb-false at (length text) f)))))

-- one digit more
pub decimal-more : (n d : ℕ) → 0 < n → d < 10 → 10 * n + d < 65536
    → decimal (10 * n + d) ≡ decimal n ++ (digit d ∷ [])
unfolding decimal
decimal-more n d some h l =
    let tens : (10 * n + d) / 10 ≡ n = omega arith in
    let ones : (10 * n + d) % 10 ≡ d = omega arith in
    digits_more (10 * n + d) 5 (omega arith) (omega arith)
    ∙ rw (tens, ones) (ap (λ front. front ++ (digit d ∷ [])) (sym (digits-enough 3 n (omega arith))))

module _ (text : List ℕ) (at : ℕ) where
  first_of : (n : ℕ) → Begins n (drop at text) → get_or text at 0 ≡ get_or (decimal n) 0 0
  first_of n (rest, e, no_digit) =
      ap (λ i. get_or text i 0) (omega arith) ∙ sym (get_or-drop at text 0 0) ∙ ap (λ s. get_or s 0 0) e
      ∙ get_or-append (decimal n) rest 0 0 (some-digit n)

  -- where no number is written none is read
  none : ((n : ℕ) → n < 65536 → Begins n (drop at text) → ⊥) → read_number (drop at text) ≡ 65536
  none other =
      let n = read_number (drop at text) in
      by_cases (ltb n 65536)
      (λ t. let l = ltb-true n 65536 t in absurd (other n l (read-begins (drop at text) l)))
      (λ f. omega (arith, ltb-false n 65536 f, read-at-most (drop at text)))

  pub none_read : is_digit (get_or text at 0) ≡ false → read_number (drop at text) ≡ 65536
  none_read f =
      none (λ n l b.
      true-false (ap is_digit (first_of n b) ∙ all-at is_digit (decimal-digits n) (mem-get_or (decimal n) 0 0 (some-digit n))) f)

  -- no number has a digit behind a 0
  pub zero-read : get_or text at 0 ≡ 48 → is_digit (get_or text (at + 1) 0) ≡ true → read_number (drop at text) ≡ 65536
  unfolding digit
  zero-read z t =
      none (λ n l b.
      let e : n ≡ 0 = no-leading-zero n (omega arith) (sym (first_of n b) ∙ z) in
      let whole : drop at text ≡ 48 ∷ b.0 = rw (e, one-digit 0 (omega arith)) at b.1 in
      let second : get_or text (at + 1) 0 ≡ get_or b.0 0 0 =
      sym (get_or-drop at text 1 0) ∙ ap (λ s. get_or s 1 0) whole in
      true-false t (ap is_digit second ∙ no-digit-at b.0 b.2))

-- the digits from `at` up to i are those of n, and behind a 0 there is no digit
pub record ReadUpto (text : List ℕ) (at n i : ℕ) : Type 0 where
  pub small : n < 65536
  pub stands : drop at text ≡ decimal n ++ drop i text
  pub ends : n ≡ 0 → is_digit (get_or text i 0) ≡ false

module _ {text : List ℕ} {at : ℕ} where
  pub read_first : {first : ℕ} → Starts text at first → ReadUpto text at first (at + 1)
  unfolding digit
  read_first {first} s =
      let e : first % 10 ≡ first = omega (arith, s.small) in
      record {
        small = omega (arith, s.small);
        stands = drop-cons text at 0 (digit-inside text at s.begins)
            ∙ rw (one-digit first s.small, e, s.value, add-one at) refl;
        ends = s.ends;
      }

  module _ {n i : ℕ} (u : ReadUpto text at n i) where
    pub read-end : is_digit (get_or text i 0) ≡ false → (n < 65536) × (n ≡ read_number (drop at text))
    read-end f =
        let first : get_or (drop i text) 0 0 ≡ get_or text i 0 =
        get_or-drop i text 0 0 ∙ ap (λ j. get_or text j 0) (omega arith) in (
          u.small,
          sym (read-written n (drop at text) (drop i text) u.small u.stands
              (no-digit-from (drop i text) (ap is_digit first ∙ f))),
        )

    module _ (t : is_digit (get_or text i 0) ≡ true) where
      goes_on : drop at text ≡ decimal n ++ get_or text i 0 ∷ drop (suc i) text
      goes_on = u.stands ∙ ap (λ rest. decimal n ++ rest) (drop-cons text i 0 (digit-inside text i t))

      pub read-over : 65535 < 10 * n + (get_or text i 0 - 48) → read_number (drop at text) ≡ 65536
      read-over l = read-too-large n (get_or text i 0) (drop at text) (drop (suc i) text) u.small t l goes_on

      pub read_next : 10 * n + (get_or text i 0 - 48) ≤ 65535 → ReadUpto text at (10 * n + (get_or text i 0 - 48)) (i + 1)
      unfolding digit
      read_next l =
          let b = get_or text i 0 in
          let w = digit-within b t in
          let some : 0 < n =
          by_cases (eqb n 0) (λ z. absurd (true-false t (u.ends (eqb-true n 0 z)))) (λ z. omega (arith, eqb-false n 0 z)) in
          let d : b ≡ 48 + (b - 48) = omega (arith, w.0) in
          record {
            small = omega arith;
            stands = goes_on
                ∙ rw (decimal-more n (b - 48) some (omega (arith, w.1)) (omega arith), add-one i)
                (sym (append_assoc (decimal n) ((48 + (b - 48)) ∷ []) (drop (suc i) text)
                ∙ ap (λ x. decimal n ++ (x ∷ drop (suc i) text)) (sym d)));
            ends = λ z. absurd (omega (arith, z, some));
          }

-- A number of one digit or two stands at a place

module _ (text : List ℕ) (at n : ℕ) where
  pub one-stands : n < 10 → eqb (get_or text at 0) (48 + n) ≡ starts_with (decimal n) (drop at text)
  unfolding digit starts_with
  one-stands l =
      let e : n % 10 ≡ n = omega arith in
      rw (one-digit n l, e) (sym (byte-stands text at (48 + n) [] (omega arith) ∙ and-true _))

  pub two-stand : 10 ≤ n → n < 100
      → eqb (get_or text at 0) (48 + n / 10) && eqb (get_or text (at + 1) 0) (48 + n % 10)
      ≡ starts_with (decimal n) (drop at text)
  unfolding digit starts_with
  two-stand h l =
      let tens : n / 10 % 10 ≡ n / 10 = omega arith in
      rw (two-digits-are n h l, tens)
      (sym (byte-stands text at (48 + n / 10) ((48 + n % 10) ∷ []) (omega arith)
      ∙ ap (λ t. eqb (get_or text at 0) (48 + n / 10) && t)
      (ap (λ i. starts_with ((48 + n % 10) ∷ []) (drop i text)) (sym (add-one at))
      ∙ byte-stands text (at + 1) (48 + n % 10) [] (omega arith) ∙ and-true _)))
