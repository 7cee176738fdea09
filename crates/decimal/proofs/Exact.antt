-- Reading a number exactly: as it is written, with no digit behind it.
-- Assumes nothing.
use Prim.Native.Nat.{ℕ, ◌+◌, ◌*◌, ◌-◌, ◌≤◌, ◌<◌, min}
use mathlib.Core.Path.{◌≡◌, refl, sym, ap, subst, ◌∙◌}
use mathlib.Core.Logic.{◌↔◌}
use mathlib.Core.List.{List, [], ◌∷◌, ◌++◌}
use mathlib.Core.Bool.{true, false}
use native.Mathlib.Omega.{arith}
use borrow.Author.Tests.{eq-eqb, eqb-true, not-true}
use lib.Dec.{eqb}
use lib.ListN.{length, get_or, drop}
use lib.Seq.{get_or-drop, get_or-append-add}
use Rattle.common.proofs.Bools.{by_cases, and_intro, and_left, and_right, true-false, not_of_false}
use Rattle.decimal.specs.Decimal.{decimal, is_digit, number_after, leading_number, starts_with, is_written, read_number}
use Rattle.decimal.specs.Meaning.{NoDigitFirst, Begins, DecimalRight}
use Rattle.decimal.proofs.Digits.{digit-from, decimal-digits, digits-only, some-digit, no-leading-zero}
use Rattle.decimal.proofs.ReadBack.{no-digit-first, number-goes-on, read-digits, reads-back}

-- Where no digit comes first

pub no-digit-at : (rest : List ℕ) → NoDigitFirst rest → is_digit (get_or rest 0 0) ≡ false
unfolding is_digit
no-digit-at [] h = refl
no-digit-at (b ∷ rest) h = no-digit-first b rest h

pub no-digit-from : (rest : List ℕ) → is_digit (get_or rest 0 0) ≡ false → NoDigitFirst rest
no-digit-from rest f l h k = true-false (digit-from _ h k) f

-- Texts that begin with given bytes

pub starts-own : (xs rest : List ℕ) → starts_with xs (xs ++ rest) ≡ true
unfolding starts_with
starts-own [] rest = refl
starts-own (x ∷ xs) rest = and_intro (eq-eqb x x refl) (starts-own xs rest)

pub starts-rest : (xs text : List ℕ) → starts_with xs text ≡ true → text ≡ xs ++ drop (length xs) text
unfolding starts_with
starts-rest [] text h = refl
starts-rest (x ∷ xs) [] h = absurd (true-false refl (sym h))
starts-rest (x ∷ xs) (b ∷ text) h =
    let same = eqb-true x b (and_left _ _ h) in
    rw (sym same) (ap (λ t. x ∷ t) (starts-rest xs text (and_right (eqb x b) _ h)))

-- Exactly what is written

pub is-written : (n : ℕ) (text rest : List ℕ) → text ≡ decimal n ++ rest → NoDigitFirst rest → is_written n text ≡ true
unfolding is_written
is-written n text rest e f =
    let behind : get_or (decimal n ++ rest) (length (decimal n)) 0 ≡ get_or rest 0 0 =
    ap (λ i. get_or (decimal n ++ rest) i 0) (omega arith) ∙ get_or-append-add (decimal n) rest 0 0 in
    rw e (and_intro (starts-own (decimal n) rest) (not_of_false (ap is_digit behind ∙ no-digit-at rest f)))

pub read-written : (n : ℕ) (text rest : List ℕ) → n < 65536 → text ≡ decimal n ++ rest → NoDigitFirst rest
    → read_number text ≡ n
unfolding read_number
read-written n text rest h e f =
    rw (ap leading_number e ∙ reads-back n rest h f, is-written n text rest e f) refl

number-at-most : (a : ℕ) (text : List ℕ) → a ≤ 65536 → number_after a text ≤ 65536
unfolding number_after
number-at-most a [] h = h
number-at-most a (b ∷ text) h =
    by_cases (is_digit b) (λ t. rw t (number-at-most (min (10 * a + (b - 48)) 65536) text (omega arith))) (λ f. rw f h)

-- nothing is larger than 65,536
number-full : (text : List ℕ) → number_after 65536 text ≡ 65536
unfolding number_after
number-full [] = refl
number-full (b ∷ text) =
    let most : min (10 * 65536 + (b - 48)) 65536 ≡ 65536 = omega arith in
    by_cases (is_digit b) (λ t. rw (t, most) (number-full text)) (λ f. rw f refl)

-- a digit more than there is room for
pub read-too-large : (n b : ℕ) (text more : List ℕ) → n < 65536 → is_digit b ≡ true → 65535 < 10 * n + (b - 48)
    → text ≡ decimal n ++ b ∷ more → read_number text ≡ 65536
unfolding read_number leading_number decimal number_after
read-too-large n b text more h t l e =
    let most : min (10 * n + (b - 48)) 65536 ≡ 65536 = omega arith in
    let full : number_after 0 text ≡ 65536 =
    ap (number_after 0) e ∙ number-goes-on 0 (decimal n) (b ∷ more) (decimal-digits n)
    ∙ ap (λ a. number_after a (b ∷ more)) (read-digits 5 n (omega arith) h) ∙ rw (t, most) (number-full more) in
    by_cases (is_written 65536 text) (λ u. rw (full, u) refl) (λ f. rw (full, f) refl)

-- a number that is read stands there
read_is : (text : List ℕ) → read_number text < 65536 → is_written (read_number text) text ≡ true
unfolding read_number
read_is text l =
    by_cases (is_written (leading_number text) text) (λ t. rw (t, t) refl) (λ f. absurd (omega (arith, rw f at l)))

pub read-stands : (text : List ℕ) → read_number text < 65536 → starts_with (decimal (read_number text)) text ≡ true
unfolding is_written
read-stands text l = and_left _ _ (read_is text l)

pub read-begins : (text : List ℕ) → read_number text < 65536 → Begins (read_number text) text
unfolding is_written
read-begins text l =
    let n = read_number text in
    let rest = drop (length (decimal n)) text in
    let written = read_is text l in
    let no_digit = not-true _ (and_right (starts_with (decimal n) text) _ written) in
    let first : get_or rest 0 0 ≡ get_or text (length (decimal n)) 0 =
    get_or-drop (length (decimal n)) text 0 0 ∙ ap (λ i. get_or text i 0) (omega arith) in
    (rest, starts-rest (decimal n) text (and_left _ _ written), no-digit-from rest (ap is_digit first ∙ no_digit))

pub read-at-most : (text : List ℕ) → read_number text ≤ 65536
unfolding read_number leading_number
read-at-most text =
    by_cases (is_written (leading_number text) text)
    (λ t. rw t (number-at-most 0 text (omega arith)))
    (λ f. rw f (omega arith))

pub read-exactly : (n : ℕ) (text : List ℕ) → n < 65536 → (read_number text ≡ n) ↔ Begins n text
read-exactly n text l = (
  λ e. subst (λ k. Begins k text) e (read-begins text (omega (arith, e))),
  λ b. read-written n text b.0 l b.1 b.2,
)

pub decimals-right : DecimalRight
decimals-right =
    record {
      digits-only = digits-only;
      some-digit = some-digit;
      no-leading-zero = no-leading-zero;
      reads-back = reads-back;
      exactly = read-exactly;
      none = read-at-most;
    }
