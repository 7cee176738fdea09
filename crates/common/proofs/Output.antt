-- 12 of a call that writes a list, and what a call whose reply fits the lent buffer leaves in it.
-- Assumes nothing.
use Prim.Native.Nat.{ℕ, ◌+◌, ◌-◌, ◌≤◌, ◌<◌}
use mathlib.Core.Path.{◌≡◌, refl, sym, ap, ◌∙◌}
use mathlib.Core.List.{List, [], ◌++◌}
use native.Mathlib.Omega.{arith}
use borrow.Author.Tests.{ltb-false, lt-ltb, le-ltb}
use lib.ListN.{length, get_or, drop, length-append, length-drop, get_or-append}
use lib.Seq.{get_or-append-add, get_or-drop}
use Rattle.common.specs.Reply.{Reply, given, refused, unless, fitted, length_of, output_after}
use Rattle.common.proofs.Reply.{unless-first, unless-later, given-clear, given_stays}
use Rattle.common.specs.Meaning.{OutputLeft}

abbrev pub WithinRoom : Reply (List ℕ) → ℕ → Type 0
WithinRoom reply room = (out : List ℕ) → reply ≡ given out → length out ≤ room

module _ (out : List ℕ) (room : ℕ) where
  pub too_long : room < length out → fitted out room ≡ refused 12 0
  unfolding fitted
  too_long h = unless-first _ [] _ (lt-ltb room (length out) h)

  pub short-enough : length out ≤ room → fitted out room ≡ given out
  unfolding fitted unless
  short-enough h = unless-later _ [] _ (le-ltb room (length out) h)

  pub fitted-is : {made : List ℕ} → fitted out room ≡ given made → out ≡ made
  unfolding fitted
  fitted-is e = let same = given_stays _ (given out) e in cc

  pub fitted-fits : WithinRoom (fitted out room) room
  unfolding fitted
  fitted-fits made e =
      let (f, none) = given-clear _ (given out) e in
      omega (arith, ltb-false room (length out) f, ap length (fitted-is e))

module _ (out before : List ℕ) where
  pub not-fitted : length before < length out
      → (refused 12 0 ≡ length_of (fitted out (length before))) × (before ≡ output_after (fitted out (length before)) before)
  not-fitted h = rw (too_long out (length before) h) (refl, refl)

  pub fitted-left : {n : ℕ} {after : List ℕ} → n ≡ length out → length out ≤ length before
      → after ≡ out ++ drop (length out) before
      → (given n ≡ length_of (fitted out (length before))) × (after ≡ output_after (fitted out (length before)) before)
  fitted-left e h p = rw (short-enough out (length before) h) (ap given e, p)

-- a list before what stood behind it
module _ (out before : List ℕ) where
  front : (i : ℕ) → i < length out → get_or (out ++ drop (length out) before) i 0 ≡ get_or out i 0
  front i h = get_or-append out _ 0 i h

  back : (i : ℕ) → length out ≤ i → get_or (out ++ drop (length out) before) i 0 ≡ get_or before i 0
  back i h =
      let e : length out + (i - length out) ≡ i = omega arith in
      ap (λ j. get_or (out ++ drop (length out) before) j 0) (sym e)
      ∙ get_or-append-add out _ (i - length out) 0
      ∙ get_or-drop (length out) before (i - length out) 0
      ∙ ap (λ j. get_or before j 0) e

  whole : length out ≤ length before → length (out ++ drop (length out) before) ≡ length before
  whole h = omega (arith, length-append out (drop (length out) before), length-drop (length out) before)

module _ (before : List ℕ) where
  as_long : (reply : Reply (List ℕ)) → WithinRoom reply (length before)
      → length (output_after reply before) ≡ length before
  as_long (given out) fits = whole out before (fits out refl)
  as_long (refused n p) fits = refl

  pub output-left : (reply : Reply (List ℕ)) → WithinRoom reply (length before) → OutputLeft reply before
  output-left reply fits =
      record {
        written = λ out i e h. ap (λ r. get_or (output_after r before) i 0) e ∙ front out before i h;
        behind = λ out i e h. ap (λ r. get_or (output_after r before) i 0) e ∙ back out before i h;
        as_long = as_long reply fits;
        kept = λ n p e. ap (λ r. output_after r before) e;
      }
