-- The lines of edges do not begin as a node's do, nor as those of another group.
-- Assumes nothing.
use Prim.Native.Nat.{ℕ, ◌<◌}
use mathlib.Core.Path.{◌≡◌, refl, sym, ap, ◌∙◌}
use mathlib.Core.List.{List, [], ◌∷◌, ◌++◌, flat_map, append_assoc, Memᴰ}
use mathlib.Core.List.Memᴰ.{head}
use mathlib.Core.List.Memᴰ.{tail}
use native.Mathlib.Omega.{arith}
use lib.ListN.{length, get_or, drop}
use lib.Seq.{drop-append_seam}
use Rattle.decimal.specs.Decimal.{decimal}
use Rattle.decimal.proofs.Exact.{read-written}
use Rattle.picture.specs.Text.{last_line, line_start}
use Rattle.picture.specs.Kept.Rows.{arrow, edge_end, edges_of}
use Rattle.picture.proofs.LineParts.{row-none, row-parts}

-- lines that begin with a group's name and a space: the same group, and the same byte behind the space
module _ (a b x y : ℕ) (r s : List ℕ) (small-a : a < 65536) (small_b : b < 65536)
    (e : line_start a ++ (32 ∷ x ∷ r) ≡ line_start b ++ (32 ∷ y ∷ s)) where
  numbers : decimal a ++ (32 ∷ x ∷ r) ≡ decimal b ++ (32 ∷ y ∷ s)
  unfolding line_start
  numbers = ap (drop 3) e

  same_number : a ≡ b
  same_number =
      sym (read-written a _ (32 ∷ x ∷ r) small-a refl (λ l h k. omega arith))
      ∙ read-written b _ (32 ∷ y ∷ s) small_b numbers (λ l h k. omega arith)

  same_byte : x ≡ y
  same_byte =
      let rests : 32 ∷ x ∷ r ≡ 32 ∷ y ∷ s =
      sym (drop-append_seam (decimal a) (32 ∷ x ∷ r)) ∙ ap (drop (length (decimal a))) numbers
      ∙ ap (λ k. drop (length (decimal k)) (decimal b ++ (32 ∷ y ∷ s))) same_number
      ∙ drop-append_seam (decimal b) (32 ∷ y ∷ s) in
      ap (λ l. get_or l 1 0) rests

-- rows of edges and the last line, where another line is looked for
module _ (a x : ℕ) (s : List ℕ) (small : a < 65536) where
  last-differs : last_line ≡ line_start a ++ (32 ∷ x ∷ s) → ⊥
  unfolding line_start
  last-differs e = omega (arith, ap (λ l. get_or l 0 0) e)

  row-differs : (b : ℕ) (ks rest : List ℕ) → (b < 65536) × (b ≡ a → 45 ≡ x → ⊥)
      → (rest ≡ line_start a ++ (32 ∷ x ∷ s) → ⊥) → edges_of b ks ++ rest ≡ line_start a ++ (32 ∷ x ∷ s) → ⊥
  row-differs b [] rest other later e = later (sym (ap (λ l. l ++ rest) (row-none b)) ∙ e)
  row-differs b (k ∷ ks) rest other later e =
      let more = decimal k ++ (edge_end ++ (edges_of b ks ++ rest)) in
      let line : line_start b ++ (arrow ++ more) ≡ line_start a ++ (32 ∷ x ∷ s) =
      sym (row-parts b k ks rest ∙ append_assoc (line_start b) arrow more) ∙ e in
      other.1 (same_number b a 45 x _ s other.0 small line) (same_byte b a 45 x _ s other.0 small line)

  pub no-line-opens : (group : ℕ → ℕ) (targets : ℕ → List ℕ) (js : List ℕ)
      → ((j : ℕ) → Memᴰ j js → (group j < 65536) × (group j ≡ a → 45 ≡ x → ⊥))
      → flat_map (λ j. edges_of (group j) (targets j)) js ++ last_line ≡ line_start a ++ (32 ∷ x ∷ s) → ⊥
  unfolding flat_map
  no-line-opens group targets [] others e = last-differs e
  no-line-opens group targets (j ∷ js) others e =
      row-differs (group j) (targets j) _ (others j (head refl))
      (no-line-opens group targets js (λ i i-in. others i (tail i-in)))
      (sym (append_assoc (edges_of (group j) (targets j)) _ last_line) ∙ e)
