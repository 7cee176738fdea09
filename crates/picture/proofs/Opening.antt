-- How a line begins: two spaces, a group's name, and the bytes that tell a node from an edge.
-- Assumes nothing.
use Prim.Native.Nat.{ℕ, ◌+◌, ◌≤◌}
use mathlib.Core.Path.{◌≡◌, refl, sym, ap, ◌∙◌}
use mathlib.Core.List.{List, [], ◌∷◌, ◌++◌}
use mathlib.Core.Bool.{Bool, true, false, ◌&&◌}
use native.Mathlib.Omega.{arith}
use lib.ListN.{length, drop, length-drop}
use lib.Seq.{drop-drop}
use Rattle.common.proofs.Bools.{and-false-left}
use Rattle.decimal.specs.Decimal.{decimal, starts_with}
use Rattle.decimal.proofs.Standing.{starts-append, starts-length}
use Rattle.picture.specs.Text.{line_start}

module _ (text : List ℕ) (at k : ℕ) where
  -- two spaces and a g
  abbrev name_start : List ℕ
  name_start = 32 ∷ 32 ∷ 103 ∷ []

  name-parts : starts_with (line_start k) (drop at text)
      ≡ starts_with name_start (drop at text) && starts_with (decimal k) (drop (at + 3) text)
  unfolding line_start
  name-parts = starts-append name_start (decimal k) (drop at text) ∙ rw (drop-drop 3 at text) refl

  pub no_name : starts_with name_start (drop at text) ≡ false → false ≡ starts_with (line_start k) (drop at text)
  no_name f = sym (name-parts ∙ and-false-left _ f)

  pub name-here : {r : Bool} → starts_with name_start (drop at text) ≡ true
      → r ≡ starts_with (decimal k) (drop (at + 3) text) → r ≡ starts_with (line_start k) (drop at text)
  name-here t e = e ∙ sym (name-parts ∙ rw t refl)

  pub name-start-room : at ≤ length text → starts_with name_start (drop at text) ≡ true → at + 3 ≤ length text
  name-start-room l t = omega (arith, starts-length name_start (drop at text) t, length-drop at text)

  module _ {width : ℕ} (w : width ≡ length (decimal k)) where
    place : at + 3 + width ≡ at + length (line_start k)
    unfolding line_start
    place = omega (arith, w)

    pub name-room : at ≤ length text → starts_with (line_start k) (drop at text) ≡ true → at + 3 + width ≤ length text
    name-room l t = omega (arith, place, starts-length (line_start k) (drop at text) t, length-drop at text)

    module _ (bytes : List ℕ) where
      line-parts : starts_with (line_start k ++ bytes) (drop at text)
          ≡ starts_with (line_start k) (drop at text) && starts_with bytes (drop (at + 3 + width) text)
      line-parts =
          starts-append (line_start k) bytes (drop at text)
          ∙ ap (λ rest. starts_with (line_start k) (drop at text) && starts_with bytes rest)
          (drop-drop (length (line_start k)) at text ∙ ap (λ i. drop i text) (sym place))

      pub line-here : {r : Bool} → starts_with (line_start k) (drop at text) ≡ true
          → r ≡ starts_with bytes (drop (at + 3 + width) text) → r ≡ starts_with (line_start k ++ bytes) (drop at text)
      line-here t e = e ∙ sym (line-parts ∙ rw t refl)

  pub other-line : (bytes : List ℕ) → starts_with (line_start k) (drop at text) ≡ false
      → false ≡ starts_with (line_start k ++ bytes) (drop at text)
  other-line bytes f = sym (line-parts refl bytes ∙ and-false-left _ f)
