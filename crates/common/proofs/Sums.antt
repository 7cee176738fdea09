-- Laws of sums, products, the greatest, and lists made of a list for each member.
-- Assumes nothing.
use Prim.Native.Nat.{ℕ, zero, suc, ◌+◌, ◌*◌, ◌≤◌, ◌<◌, zero-le}
use mathlib.Core.Path.{◌≡◌, refl, sym, ap, ap₂, ◌∙◌}
use mathlib.Core.Logic.{⊎_elim}
use mathlib.Core.List.Memᴰ
use mathlib.Core.List.Memᴰ.{head}
use mathlib.Core.List.Memᴰ.{tail}
use mathlib.Core.List.{List, [], ◌∷◌, ◌++◌, map, Memᴰ}
use mathlib.Core.List.{append-nil, flat_map, append_assoc, map-append}
use mathlib.Core.Bool.{Bool, true, cond}
use native.Mathlib.Nat.{not-suc-le-zero, mul-pos, mul_assoc, suc-mul, le_refl, eq-or-lt_of_le, le_of_suc-le-suc}
use native.Mathlib.Nat.{add-zero, add-suc}
use native.Mathlib.Omega.{arith}
use borrow.Author.Tests.{leb-true, leb-false}
use lib.Dec.{leb}
use lib.ListN.{length, get_or, length-append}
use lib.Seq.{get_or-append-add}
use Rattle.common.specs.Lists.{up_to, filter, sum, product, maximum}
use Rattle.common.proofs.Bools.{by_cases}
use Rattle.common.proofs.Members.{up_to-below}

-- Sums, products, the greatest

pub sum-append : (xs ys : List ℕ) → sum (xs ++ ys) ≡ sum xs + sum ys
unfolding sum
sum-append [] ys = omega arith
sum-append (x ∷ xs) ys = omega (arith, sum-append xs ys)

pub sum-above : {x : ℕ} {xs : List ℕ} → Memᴰ x xs → x ≤ sum xs
unfolding sum
sum-above (head e) = omega arith
sum-above (tail m) = omega (arith, sum-above m)

pub product-append : (xs ys : List ℕ) → product (xs ++ ys) ≡ product xs * product ys
unfolding product
product-append [] ys = omega arith
product-append (x ∷ xs) ys = ap (◌*◌ x) (product-append xs ys) ∙ sym (mul_assoc x (product xs) (product ys))

pub product-positive : (xs : List ℕ) → ((x : ℕ) → Memᴰ x xs → 0 < x) → 0 < product xs
unfolding product
product-positive [] h = omega arith
product-positive (x ∷ xs) h = mul-pos (h x (head refl)) (product-positive xs (λ y m. h y (tail m)))

pub maximum-above : {x : ℕ} {xs : List ℕ} → Memᴰ x xs → x ≤ maximum xs
unfolding maximum
maximum-above (head e) = omega arith
maximum-above (tail m) = omega (arith, maximum-above m)

pub maximum-is-least : (xs : List ℕ) (b : ℕ) → ((x : ℕ) → Memᴰ x xs → x ≤ b) → maximum xs ≤ b
unfolding maximum
maximum-is-least [] b h = zero-le
maximum-is-least (x ∷ xs) b h = omega (arith, h x (head refl), maximum-is-least xs b (λ y m. h y (tail m)))

-- the greatest of some numbers is one of them
pub maximum-mem : (x : ℕ) (xs : List ℕ) → Memᴰ (maximum (x ∷ xs)) (x ∷ xs)
unfolding maximum
maximum-mem x [] = head {x = x} (omega arith)
maximum-mem x (y ∷ ys) =
    by_cases (leb x (maximum (y ∷ ys)))
    (λ t. tail (Memᴰ.cast (omega (arith, leb-true)) (maximum-mem y ys)))
    (λ f. head {x = x} (omega (arith, leb-false)))

pub maximum-some : (xs : List ℕ) → 0 < length xs → Memᴰ (maximum xs) xs
maximum-some [] h = absurd (not-suc-le-zero h)
maximum-some (x ∷ xs) h = maximum-mem x xs

module _ {A : Type 0} (f : A → ℕ) where
  pub sum_mono : (g : A → ℕ) (xs : List A) → ((x : A) → Memᴰ x xs → f x ≤ g x) → sum (map f xs) ≤ sum (map g xs)
  unfolding sum
  sum_mono g [] h = zero-le
  sum_mono g (x ∷ xs) h = omega (arith, h x (head refl), sum_mono g xs (λ y m. h y (tail m)))

  pub sum-filter : (p : A → Bool) (xs : List A) → sum (map f (filter p xs)) ≤ sum (map f xs)
  unfolding sum filter
  sum-filter p [] = zero-le
  sum-filter p (x ∷ xs) =
      by_cases (p x) (λ t. rw t (omega (arith, sum-filter p xs))) (λ k. rw k (omega (arith, sum-filter p xs)))

  -- a test that lets more through
  pub sum-filter-mono : (p q : A → Bool) (xs : List A) → ((x : A) → Memᴰ x xs → p x ≡ true → q x ≡ true)
      → sum (map f (filter p xs)) ≤ sum (map f (filter q xs))
  unfolding sum filter
  sum-filter-mono p q [] h = zero-le
  sum-filter-mono p q (x ∷ xs) h =
      let rest = sum-filter-mono p q xs (λ y m. h y (tail m)) in
      by_cases (p x)
      (λ t. rw (t, h x (head refl) t) (omega (arith, rest)))
      (λ k. rw k (by_cases (q x) (λ t. rw t (omega (arith, rest))) (λ n. rw n rest)))

  pub sum-add : (g : A → ℕ) (xs : List A) → sum (map (λ x. f x + g x) xs) ≡ sum (map f xs) + sum (map g xs)
  unfolding sum
  sum-add g [] = refl
  sum-add g (x ∷ xs) = omega (arith, sum-add g xs)

  pub sum-those : (p : A → Bool) (xs : List A) → sum (map f (filter p xs)) ≡ sum (map (λ x. cond (p x) (f x) 0) xs)
  unfolding sum filter
  sum-those p [] = refl
  sum-those p (x ∷ xs) =
      by_cases (p x) (λ t. rw t (omega (arith, sum-those p xs))) (λ k. rw k (omega (arith, sum-those p xs)))

module _ (f : ℕ → ℕ) where
  pub sum-next : (n : ℕ) → sum (map f (up_to (suc n))) ≡ sum (map f (up_to n)) + f n
  unfolding sum up_to
  sum-next n = rw (map-append, sum-append) (omega arith)

  pub sum-up : {n : ℕ} (m : ℕ) → n ≤ m → sum (map f (up_to n)) ≤ sum (map f (up_to m))
  sum-up {n} zero h = let e : n ≡ 0 = omega arith in rw e (le_refl _)
  sum-up (suc m) h =
      ⊎_elim
      (λ e. rw e (le_refl _))
      (λ l. omega (arith, sum-next m, sum-up m (le_of_suc-le-suc l)))
      (eq-or-lt_of_le h)

-- the sum of numbers that are all c
pub sum-constant : {A : Type 0} (f : A → ℕ) (c : ℕ) (xs : List A) → ((x : A) → Memᴰ x xs → f x ≡ c)
    → sum (map f xs) ≡ length xs * c
unfolding sum
sum-constant f c [] h = omega arith
sum-constant f c (x ∷ xs) h =
    omega (arith, suc-mul (length xs) c, h x (head refl), sum-constant f c xs (λ y m. h y (tail m)))

-- Lists made of a list for each member

module _ {A B : Type 0} (f : A → List B) where
  pub flat_map-append : (xs ys : List A) → flat_map f (xs ++ ys) ≡ flat_map f xs ++ flat_map f ys
  unfolding flat_map
  flat_map-append [] ys = refl
  flat_map-append (x ∷ xs) ys = ap (λ l. f x ++ l) (flat_map-append xs ys) ∙ sym (append_assoc (f x) _ _)

  pub length-flat_map : (xs : List A) → length (flat_map f xs) ≡ sum (map (λ x. length (f x)) xs)
  unfolding flat_map sum
  length-flat_map [] = refl
  length-flat_map (x ∷ xs) = length-append (f x) (flat_map f xs) ∙ ap (λ n. length (f x) + n) (length-flat_map xs)

  pub flat_map-snoc : (xs : List A) (x : A) → flat_map f (xs ++ (x ∷ [])) ≡ flat_map f xs ++ f x
  unfolding flat_map
  flat_map-snoc xs x = flat_map-append xs (x ∷ []) ∙ ap (λ l. flat_map f xs ++ l) (append-nil (f x))

module _ {A B C : Type 0} (f : B → List C) where
  pub flat_map-map : (g : A → B) (xs : List A) → flat_map f (map g xs) ≡ flat_map (λ x. f (g x)) xs
  unfolding flat_map
  flat_map-map g [] = refl
  flat_map-map g (x ∷ xs) = ap (λ l. f (g x) ++ l) (flat_map-map g xs)

  pub flat_map-flat_map : (g : A → List B) (xs : List A) → flat_map f (flat_map g xs) ≡ flat_map (λ x. flat_map f (g x)) xs
  unfolding flat_map
  flat_map-flat_map g [] = refl
  flat_map-flat_map g (x ∷ xs) =
      flat_map-append f (g x) (flat_map g xs) ∙ ap (λ l. flat_map f (g x) ++ l) (flat_map-flat_map g xs)

module _ {B : Type 0} (f : ℕ → List B) where
  pub flat_map-up_to-suc : (n : ℕ) → flat_map f (up_to (suc n)) ≡ flat_map f (up_to n) ++ f n
  unfolding up_to
  flat_map-up_to-suc n = flat_map-snoc f (up_to n) n

pub flat_map-cong : {A B : Type 0} (f g : A → List B) (xs : List A) → ((x : A) → Memᴰ x xs → f x ≡ g x)
    → flat_map f xs ≡ flat_map g xs
unfolding flat_map
flat_map-cong f g [] h = refl
flat_map-cong f g (x ∷ xs) h = ap₂ ◌++◌ (h x (head refl)) (flat_map-cong f g xs (λ y m. h y (tail m)))

-- the same pieces as before, and one more
pub flat_map-up_to-more : {B : Type 0} (f g : ℕ → List B) (n : ℕ) → ((i : ℕ) → i < n → g i ≡ f i)
    → flat_map g (up_to (suc n)) ≡ flat_map f (up_to n) ++ g n
flat_map-up_to-more f g n h =
    flat_map-up_to-suc g n ∙ ap (λ l. l ++ g n) (flat_map-cong g f (up_to n) (λ i m. h i (up_to-below n m)))

pub flat_map-up_to-add : {B : Type 0} (f : ℕ → List B) (n m : ℕ)
    → flat_map f (up_to (n + m)) ≡ flat_map f (up_to n) ++ flat_map (λ j. f (n + j)) (up_to m)
unfolding up_to flat_map
flat_map-up_to-add f n zero = rw (add-zero n) (sym (append-nil _))
flat_map-up_to-add f n (suc m) =
    rw (add-suc n m)
    (flat_map-up_to-suc f (n + m) ∙ ap (λ l. l ++ f (n + m)) (flat_map-up_to-add f n m)
    ∙ append_assoc (flat_map f (up_to n)) _ (f (n + m))
    ∙ ap (λ l. flat_map f (up_to n) ++ l) (sym (flat_map-up_to-suc (λ j. f (n + j)) m)))

-- Two numbers for each member, at twice its place

module _ {A : Type 0} (f g : A → ℕ) where
  abbrev pub two_of : A → List ℕ
  two_of x = f x ∷ g x ∷ []

  pub length-twos : (xs : List A) → length (flat_map two_of xs) ≡ 2 * length xs
  unfolding flat_map
  length-twos [] = omega arith
  length-twos (x ∷ xs) = omega (arith, length-twos xs)

  pub get_or-twos : (d : A) → f d ≡ 0 → g d ≡ 0 → (xs : List A) (n : ℕ)
      → (get_or (flat_map two_of xs) (2 * n) 0 ≡ f (get_or xs n d)) × (get_or (flat_map two_of xs) (1 + 2 * n) 0 ≡ g (get_or xs n d))
  unfolding flat_map
  get_or-twos d a b [] n = (sym a, sym b)
  get_or-twos d a b (x ∷ xs) zero = (refl, refl)
  get_or-twos d a b (x ∷ xs) (suc n) =
      let rest = flat_map two_of xs in
      let even : 2 * suc n ≡ 2 + 2 * n = omega arith in
      let odd : 1 + 2 * suc n ≡ 2 + (1 + 2 * n) = omega arith in
      let (first, second) = get_or-twos d a b xs n in (
        ap (λ i. get_or (two_of x ++ rest) i 0) even ∙ get_or-append-add (two_of x) rest (2 * n) 0 ∙ first,
        ap (λ i. get_or (two_of x ++ rest) i 0) odd ∙ get_or-append-add (two_of x) rest (1 + 2 * n) 0 ∙ second,
      )
