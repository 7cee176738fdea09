-- Bytes compared with the beginning of a text, one by one.
-- Assumes nothing.
use Prim.Native.Nat.{ℕ, zero, suc, ◌+◌, ◌-◌, ◌≤◌, ◌<◌}
use mathlib.Core.Path.{◌≡◌, refl, sym, ap, ◌∙◌}
use mathlib.Core.List.{List, [], ◌∷◌, ◌++◌}
use mathlib.Core.Bool.{Bool, true, false, ◌&&◌, and_assoc, and-true}
use native.Mathlib.Omega.{arith}
use native.Mathlib.Nat.{le_antisymm}
use native.Mathlib.Numerals.{add-one}
use borrow.Author.Tests.{eq-eqb, ne_eqb, eqb-true, ltb-true, ltb-false}
use lib.Dec.{eqb, ltb}
use lib.ListN.{length, get_or, drop, length-drop, drop_of_length-le, get_or-eq_default}
use lib.Seq.{get_or-drop, drop-cons}
use Rattle.common.specs.Lists.{up_to, all}
use Rattle.common.proofs.Bools.{bool-ext, by_cases, true-false, true-of-not-false, and_intro, and_right}
use Rattle.common.proofs.Bools.{and-false-left, and-false-right}
use Rattle.common.proofs.Lists.{all-at, all-intro, all_append}
use Rattle.common.proofs.Members.{up_to-mem, up_to-below}
use Rattle.decimal.specs.Decimal.{starts_with}

pub starts-append : (xs ys text : List ℕ)
    → starts_with (xs ++ ys) text ≡ starts_with xs text && starts_with ys (drop (length xs) text)
unfolding starts_with
starts-append [] ys text = refl
starts-append (x ∷ xs) ys [] = refl
starts-append (x ∷ xs) ys (b ∷ text) =
    ap (λ t. eqb x b && t) (starts-append xs ys text) ∙ sym (and_assoc (eqb x b) _ _)

pub starts-length : (xs text : List ℕ) → starts_with xs text ≡ true → length xs ≤ length text
unfolding starts_with
starts-length [] text h = omega arith
starts-length (x ∷ xs) [] h = absurd (true-false refl (sym h))
starts-length (x ∷ xs) (b ∷ text) h = omega (arith, starts-length xs text (and_right (eqb x b) _ h))

-- One piece: byte by byte

pub starts-short : (xs text : List ℕ) → length text < length xs → starts_with xs text ≡ false
starts-short xs text l =
    by_cases (starts_with xs text) (λ t. absurd (omega (arith, starts-length xs text t))) (λ f. f)

pub starts-all : (xs text : List ℕ) → length xs ≤ length text → ((i : ℕ) → i < length xs → get_or text i 0 ≡ get_or xs i 0)
    → starts_with xs text ≡ true
unfolding starts_with
starts-all [] text l h = refl
starts-all (x ∷ xs) [] l h = absurd (omega (arith, l))
starts-all (x ∷ xs) (b ∷ text) l h =
    and_intro (eq-eqb x b (sym (h 0 (omega arith))))
    (starts-all xs text (omega (arith, l)) (λ i k. h (suc i) (omega (arith, k))))

pub starts-not : (xs text : List ℕ) (i : ℕ) → i < length xs → (get_or text i 0 ≡ get_or xs i 0 → ⊥)
    → starts_with xs text ≡ false
unfolding starts_with
starts-not [] text i l n = absurd (omega (arith, l))
starts-not (x ∷ xs) [] i l n = refl
starts-not (x ∷ xs) (b ∷ text) zero l n = and-false-left _ (ne_eqb x b (λ e. n (sym e)))
starts-not (x ∷ xs) (b ∷ text) (suc i) l n = and-false-right (eqb x b) (starts-not xs text i (omega (arith, l)) n)

-- whether the first i bytes of a piece stand at a place of the text
module _ (text : List ℕ) (at : ℕ) (piece : List ℕ) where
  abbrev equal : ℕ → Bool
  equal j = eqb (get_or text (at + j) 0) (get_or piece j 0)

  pub record StandUpto (i : ℕ) (same : Bool) : Type 0 where
    pub room : at + length piece ≤ length text
    pub inside : i ≤ length piece
    pub so_far : same ≡ all equal (up_to i)

  pub stand-none : at + length piece ≤ length text → StandUpto 0 true
  unfolding up_to all
  stand-none h = record { room = h; inside = omega arith; so_far = refl }

  pub stand-short : length text - at < length piece → at ≤ length text → false ≡ starts_with piece (drop at text)
  stand-short h l = sym (starts-short piece (drop at text) (omega (arith, length-drop at text)))

  module _ {i : ℕ} {same : Bool} (u : StandUpto i same) where
    pub stand-next : {b : Bool} → i < length piece → b ≡ (same && equal i) → StandUpto (i + 1) b
    unfolding up_to all
    stand-next l e =
        record {
          room = u.room;
          inside = omega arith;
          so_far = e ∙ ap (λ t. t && equal i) u.so_far
              ∙ sym (rw (add-one i) (all_append equal (up_to i) (i ∷ []) ∙ ap (λ t. all equal (up_to i) && t)
              (and-true (equal i))));
        }

    pub stand-end : length piece ≤ i → same ≡ starts_with piece (drop at text)
    stand-end l =
        let e : i ≡ length piece = le_antisymm u.inside l in
        u.so_far ∙ ap (λ k. all equal (up_to k)) e
        ∙ bool-ext
        (λ t.
        starts-all piece (drop at text) (omega (arith, length-drop at text, u.room)) (λ j k.
        get_or-drop at text j 0 ∙ eqb-true _ _ (all-at equal t (up_to-mem k))))
        (λ t.
        all-intro equal (up_to (length piece)) (λ j m.
        true-of-not-false (λ f. true-false t (starts-not piece (drop at text) j (up_to-below _ m) (λ same.
        true-false (eq-eqb _ _ (sym (get_or-drop at text j 0) ∙ same)) f)))))

-- One byte, and two, at a place

module _ (text : List ℕ) where
  pub no_byte : {at b : ℕ} → length text ≤ at → 0 < b → false ≡ eqb (get_or text at 0) b
  no_byte {at} {b} h l =
      sym (ne_eqb (get_or text at 0) b (λ e. omega (arith, l, sym e ∙ get_or-eq_default text 0 h)))

  pub byte-stands : (at b : ℕ) (more : List ℕ) → 0 < b
      → starts_with (b ∷ more) (drop at text) ≡ eqb (get_or text at 0) b && starts_with more (drop (suc at) text)
  unfolding starts_with
  byte-stands at b more l =
      by_cases (ltb at (length text))
      (λ t.
      rw (drop-cons text at 0 (ltb-true at (length text) t))
      (ap (λ same. same && starts_with more (drop (suc at) text))
      (bool-ext
      (λ u. eq-eqb _ _ (sym (eqb-true b (get_or text at 0) u)))
      (λ u. eq-eqb _ _ (sym (eqb-true (get_or text at 0) b u))))))
      (λ f.
      let past = ltb-false at (length text) f in
      rw (drop_of_length-le text past, sym (no_byte past l)) refl)
