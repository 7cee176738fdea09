-- Laws of a list in an array, zeros behind it.
-- Assumes nothing.
use Prim.Native.Nat.{ℕ, zero, suc, ◌-◌, ◌≤◌, ◌<◌, max}
use mathlib.Core.Path.{◌≡◌, refl, sym, ap, ◌∙◌}
use mathlib.Core.List.{List, [], ◌∷◌, ◌++◌}
use native.Mathlib.Nat.{sub-zero}
use native.Mathlib.Omega.{arith}
use lib.ListN.{length, get_or, set, replicate, length-append, length-replicate}
use lib.Seq.{append_snoc, set-append_seam}
use Rattle.common.specs.Lists.{pad}

-- A list with zeros behind it

pub get_or-zeros : (n i : ℕ) → get_or (replicate {A = ℕ} n 0) i 0 ≡ 0
get_or-zeros zero i = refl
get_or-zeros (suc n) zero = refl
get_or-zeros (suc n) (suc i) = get_or-zeros n i

pub get_or-zeros-behind : (xs : List ℕ) (n i : ℕ) → get_or (xs ++ replicate n 0) i 0 ≡ get_or xs i 0
get_or-zeros-behind [] n i = get_or-zeros n i
get_or-zeros-behind (x ∷ xs) n zero = refl
get_or-zeros-behind (x ∷ xs) n (suc i) = get_or-zeros-behind xs n i

pub get_or-pad : (n : ℕ) (xs : List ℕ) (i : ℕ) → get_or (pad n xs) i 0 ≡ get_or xs i 0
unfolding pad
get_or-pad n xs i = get_or-zeros-behind xs (n - length xs) i

pub length-pad-max : (n : ℕ) (xs : List ℕ) → length (pad n xs) ≡ max n (length xs)
unfolding pad
length-pad-max n xs = simp (length-append, length-replicate) (omega arith)

pub length-pad : (n : ℕ) (xs : List ℕ) → length xs ≤ n → length (pad n xs) ≡ n
length-pad n xs h = omega (arith, length-pad-max n xs)

pub set-pad : (n : ℕ) (xs : List ℕ) (x : ℕ) → length xs < n → set (pad n xs) (length xs) x ≡ pad n (xs ++ (x ∷ []))
unfolding pad
set-pad n xs x h =
    let e : n - length xs ≡ suc (n - length (xs ++ (x ∷ []))) = omega (arith, length-append xs (x ∷ [])) in
    rw e (set-append_seam xs 0 _ x ∙ sym (append_snoc xs x _))

pub pad-nil : (n : ℕ) → pad n [] ≡ replicate n 0
unfolding pad
pad-nil n = ap (λ k. replicate {A = ℕ} k 0) (sub-zero n)
