-- The goals of a slice: at most n goals, each after its length, are read as they are, and any other slice is refused by 14.
-- Assumes nothing.
use Prim.Native.Nat.{ℕ, zero, suc, ◌≤◌}
use mathlib.Core.Path.{◌≡◌, refl, sym, ap, ap₂, ◌∙◌}
use mathlib.Core.Logic.{◌⊎◌, inl, inr, ⊎_elim}
use mathlib.Core.List.{List, [], ◌∷◌, ◌++◌}
use mathlib.Core.Bool.{true, false}
use native.Mathlib.Omega.{arith}
use borrow.Author.Tests.{le-ltb, ltb-false}
use lib.Dec.{ltb}
use lib.ListN.{length, take, drop, length-append, take-append-drop}
use lib.Seq.{length-take-le, take-append_seam, drop-append_seam}
use Rattle.common.specs.Reply.{given, refused, unless, and_then}
use Rattle.common.proofs.Bools.{by_cases}
use Rattle.common.proofs.Reply.{given-not-refused, unless-first, unless-later}
use Rattle.joining.specs.Join.{Goals, goals_in}
use Rattle.joining.specs.Joined.{lent_as}

module _ (n len : ℕ) (rest : List ℕ) where
  goal-cut : ltb (length rest) len ≡ true → goals_in (suc n) (len ∷ rest) ≡ refused 14 255
  unfolding goals_in
  goal-cut t = unless-first _ [] _ t

  pub goal-whole : ltb (length rest) len ≡ false
      → goals_in (suc n) (len ∷ rest) ≡ and_then (goals_in n (drop len rest)) (λ goals. given (take len rest ∷ goals))
  unfolding goals_in unless
  goal-whole f = unless-later _ [] _ f

  goal-then : ltb (length rest) len ≡ false → {goals : Goals} → goals_in n (drop len rest) ≡ given goals
      → goals_in (suc n) (len ∷ rest) ≡ given (take len rest ∷ goals)
  unfolding and_then
  goal-then f e = goal-whole f ∙ rw e

  goal-refused : ltb (length rest) len ≡ false → goals_in n (drop len rest) ≡ refused 14 255
      → goals_in (suc n) (len ∷ rest) ≡ refused 14 255
  unfolding and_then
  goal-refused f e = goal-whole f ∙ rw e

-- goals as they are lent are read as they are
pub lent_goals : (n : ℕ) (goals : Goals) → length goals ≤ n → goals_in n (lent_as goals) ≡ given goals
unfolding goals_in
lent_goals zero [] h = refl
lent_goals (suc n) [] h = refl
lent_goals zero (goal ∷ goals) h = absurd (let f : ⊥ = omega arith in f)
lent_goals (suc n) (goal ∷ goals) h =
    let rest = goal ++ lent_as goals in
    goal-then n (length goal) rest
    (le-ltb (length rest) (length goal) (omega (arith, length-append goal (lent_as goals))))
    (ap (goals_in n) (drop-append_seam goal (lent_as goals)) ∙ lent_goals n goals (omega arith))
    ∙ ap (λ g. given (g ∷ goals)) (take-append_seam goal (lent_as goals))

-- a slice of at most n goals, each after its length
pub record LentIn (n : ℕ) (lent : List ℕ) : Type 0 where
  pub goals : Goals
  pub few : length goals ≤ n
  pub whole : lent ≡ lent_as goals

-- every slice is one or is refused
pub lent-or-refused : (n : ℕ) (lent : List ℕ) → LentIn n lent ⊎ (goals_in n lent ≡ refused 14 255)
unfolding goals_in
lent-or-refused zero [] = inl (record { goals = []; few = omega arith; whole = refl })
lent-or-refused zero (len ∷ rest) = inr refl
lent-or-refused (suc n) [] = inl (record { goals = []; few = omega arith; whole = refl })
lent-or-refused (suc n) (len ∷ rest) =
    by_cases (ltb (length rest) len)
    (λ t. inr (goal-cut n len rest t))
    (λ f.
    let fits : len ≤ length rest = ltb-false _ _ f in
    ⊎_elim
    (λ l.
    inl (record {
      goals = take len rest ∷ l.goals;
      few = omega (arith, l.few);
      whole =
          ap₂ ◌∷◌ (sym (length-take-le len rest fits))
          (sym (take-append-drop len rest) ∙ ap (λ xs. take len rest ++ xs) l.whole);
    }))
    (λ e. inr (goal-refused n len rest f e))
    (lent-or-refused n (drop len rest)))

-- and for nothing else
pub goals-refused : (n : ℕ) (lent : List ℕ) {number place : ℕ} → goals_in n lent ≡ refused number place
    → (number ≡ 14) × (place ≡ 255)
goals-refused n lent e =
    ⊎_elim
    (λ l. absurd (given-not-refused (sym (lent_goals n l.goals l.few) ∙ ap (goals_in n) (sym l.whole) ∙ e)))
    (λ r. let q = sym r ∙ e in (cc, cc))
    (lent-or-refused n lent)
