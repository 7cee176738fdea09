-- What a step through the lent goals gives.
use Rattle.std.specs.Prelude.{◌≡◌, ℕ, List, [], ◌∷◌, take, drop, Option, MatchOption}
use Rattle.std.specs.Borrow.{Bor}
use Rattle.joining.specs.declared.lent.Coming.{Coming}

-- a goal is taken from the front: a byte with its length, the goal, and the others behind it
pub record Front (lent goal others : List ℕ) : Type 0 where
  pub len : ℕ
  pub tail : List ℕ
  pub are : lent ≡ len ∷ tail
  pub first : goal ≡ take len tail
  pub behind : others ≡ drop len tail

-- a step gives the first goal, if there is one
abbrev pub GivesGoal : Coming → Option (Bor (List ℕ)) → Coming → Type 0
GivesGoal m r m' = MatchOption r (m.rest.now ≡ []) (λ goal. Front m.rest.now goal.now m'.rest.now)
