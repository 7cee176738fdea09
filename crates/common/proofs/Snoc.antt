-- Lists with one more element at the end, and lists built up so.
-- Assumes nothing.
use Prim.Native.Nat.{ℕ, zero, suc, ◌<◌}
use mathlib.Core.Path.{◌≡◌, sym, ap, ◌∙◌}
use mathlib.Core.List.{List, [], ◌∷◌, ◌++◌, map, map-append}
use mathlib.Core.Bool.{Bool, ◌||◌, or-false}
use mathlib.Core.Logic.{⊎_elim}
use native.Mathlib.Nat.{eq-or-lt_of_le, le_of_suc-le-suc}
use native.Mathlib.Omega.{arith}
use lib.ListN.{length, get_or, length-append, get_or-append}
use lib.Seq.{get_or_at}
use Rattle.common.specs.Lists.{up_to, any}
use Rattle.common.proofs.Lists.{any_append}
use Rattle.common.proofs.Members.{get_or-map-up_to}

module _ {A : Type 0} (xs : List A) (x : A) where
  pub length-snoc : length (xs ++ (x ∷ [])) ≡ suc (length xs)
  length-snoc = omega (arith, length-append xs (x ∷ []))

  -- what is true of each member, and of one more behind them, is true of each member of the longer list
  pub snoc-each : (d : A) (P : ℕ → A → Type 0) → ((i : ℕ) → i < length xs → P i (get_or xs i d)) → P (length xs) x
      → (i : ℕ) → i < length (xs ++ (x ∷ [])) → P i (get_or (xs ++ (x ∷ [])) i d)
  snoc-each d P old new i h =
      ⊎_elim
      (λ e. rw (get_or_at xs x [] d i (sym e), e) new)
      (λ l. rw (get_or-append xs (x ∷ []) d i l) (old i l))
      (eq-or-lt_of_le (le_of_suc-le-suc (rw length-snoc at h)))

-- some member that: one of those before, or the last
pub any_snoc : {A : Type 0} (p : A → Bool) (xs : List A) (x : A) → any p (xs ++ (x ∷ [])) ≡ (any p xs || p x)
unfolding any
any_snoc p xs x = any_append p xs (x ∷ []) ∙ ap (◌||◌ (any p xs)) (or-false (p x))

-- where each list is the one before and one more element, the elements are those that were added
module _ {A : Type 0} (upto : ℕ → List A) (next : ℕ → A) (none : upto 0 ≡ [])
    (more : (k : ℕ) → upto (suc k) ≡ upto k ++ (next k ∷ [])) where
  pub built-map : (k : ℕ) → upto k ≡ map next (up_to k)
  unfolding up_to
  built-map zero = none
  built-map (suc k) = more k ∙ rw (built-map k) (sym (map-append next (up_to k) (k ∷ [])))

  pub built-at : {i k : ℕ} (d : A) → i < k → get_or (upto k) i d ≡ next i
  built-at {i} {k} d h = ap (λ xs. get_or xs i d) (built-map k) ∙ get_or-map-up_to next d h
