-- Arrays with zeros behind what they hold.
-- Assumes nothing.
use Prim.Native.Nat.{ℕ, zero, suc, ◌+◌, ◌≤◌, ◌<◌}
use mathlib.Core.Path.{◌≡◌, ◌∙◌}
use mathlib.Core.List.{List, [], ◌∷◌, ◌++◌}
use native.Mathlib.Numerals.{add-one}
use native.Mathlib.Omega.{arith}
use lib.ListN.{length, get_or, set}
use Rattle.common.specs.Lists.{pad}
use Rattle.common.proofs.Pad.{set-pad}
use Rattle.common.proofs.Snoc.{length-snoc}

-- one more element of a list whose elements are at most b
pub more-below : (b : ℕ) (xs : List ℕ) (a : ℕ) → ((i : ℕ) → get_or xs i 0 ≤ b) → a ≤ b
    → (i : ℕ) → get_or (xs ++ (a ∷ [])) i 0 ≤ b
more-below b [] a h k zero = k
more-below b [] a h k (suc i) = h i
more-below b (x ∷ xs) a h k zero = h 0
more-below b (x ∷ xs) a h k (suc i) = more-below b xs a (λ j. h (suc j)) k i

-- one more element each of two lists of one length
pub more-pairs : (P : ℕ → ℕ → Type 0) (xs ys : List ℕ) (a b : ℕ) → length xs ≡ length ys
    → ((i : ℕ) → P (get_or xs i 0) (get_or ys i 0)) → P a b
    → (i : ℕ) → P (get_or (xs ++ (a ∷ [])) i 0) (get_or (ys ++ (b ∷ [])) i 0)
more-pairs P [] [] a b e h k zero = k
more-pairs P [] [] a b e h k (suc i) = h i
more-pairs P [] (y ∷ ys) a b e h k i = absurd (let f : ⊥ = omega arith in f)
more-pairs P (x ∷ xs) [] a b e h k i = absurd (let f : ⊥ = omega arith in f)
more-pairs P (x ∷ xs) (y ∷ ys) a b e h k zero = h 0
more-pairs P (x ∷ xs) (y ∷ ys) a b e h k (suc i) = more-pairs P xs ys a b (omega arith) (λ j. h (suc j)) k i

-- one more element in an array
pub fills : (n : ℕ) (xs : List ℕ) (x : ℕ) {k : ℕ} {a : List ℕ} → a ≡ pad n xs → length xs ≡ k → k < n
    → set a k x ≡ pad n (xs ++ (x ∷ []))
fills n xs x e l h = rw (e, ← l) (set-pad n xs x (omega arith))

pub one-longer : {A : Type 0} (xs : List A) (x : A) {n : ℕ} → length xs ≡ n → length (xs ++ (x ∷ [])) ≡ n + 1
one-longer xs x e = length-snoc xs x ∙ rw (e, add-one)
