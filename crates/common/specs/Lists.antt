-- "For each", "some", "the first that", sums and the numbers below a limit: the list functions that the definitions use.
use Rattle.std.specs.Prelude.{ℕ, zero, suc, ◌+◌, ◌*◌, ◌-◌, max, List, [], ◌∷◌, ◌++◌, Bool, true, false, cond, ◌&&◌, ◌||◌, length, replicate}

-- 0, 1, .. n - 1
unfoldable pub up_to : ℕ → List ℕ
up_to zero = []
up_to (suc n) = up_to n ++ (n ∷ [])

-- n - 1, .. 1, 0
unfoldable pub down_to : ℕ → List ℕ
down_to zero = []
down_to (suc n) = n ∷ down_to n

module _ {A : Type 0} where
  -- for each
  unfoldable pub all : (A → Bool) → List A → Bool
  all p [] = true
  all p (x ∷ xs) = p x && all p xs

  -- some
  unfoldable pub any : (A → Bool) → List A → Bool
  any p [] = false
  any p (x ∷ xs) = p x || any p xs

  -- those that
  unfoldable pub filter : (A → Bool) → List A → List A
  filter p [] = []
  filter p (x ∷ xs) =
      let rest = filter p xs in
      cond (p x) (x ∷ rest) rest

  -- the place of the first that, or the length where there is none
  unfoldable pub position : (A → Bool) → List A → ℕ
  position p [] = 0
  position p (x ∷ xs) =
      let later : ℕ = suc (position p xs) in
      cond (p x) 0 later

  -- the first that, or a default
  unfoldable pub find : (A → Bool) → List A → A → A
  find p [] d = d
  find p (x ∷ xs) d =
      let later = find p xs d in
      cond (p x) x later

unfoldable pub sum : List ℕ → ℕ
sum [] = 0
sum (x ∷ xs) = x + sum xs

unfoldable pub product : List ℕ → ℕ
product [] = 1
product (x ∷ xs) = x * product xs

unfoldable pub maximum : List ℕ → ℕ
maximum [] = 0
maximum (x ∷ xs) = max x (maximum xs)

-- a list in an array of n numbers, zeros behind it
unfoldable pub pad : ℕ → List ℕ → List ℕ
pad n xs = xs ++ replicate (n - length xs) 0
