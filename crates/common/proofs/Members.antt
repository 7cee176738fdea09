-- Members of a list, their places, and the numbers below a limit.
-- Membership in `map f xs` and in `xs ++ ys` is mathlib.Core.List's: `Memᴰ·map`, `Memᴰ·of-map`, `Memᴰ.append_left` ..
-- Assumes nothing.
use Prim.Native.Nat.{ℕ, zero, suc, ◌≤◌, ◌<◌}
use mathlib.Core.Path.{◌≡◌, refl, sym, ap, subst, ◌∙◌}
use mathlib.Core.Logic.{⊎_elim}
use mathlib.Core.List.Memᴰ.{head}
use mathlib.Core.List.Memᴰ.{tail}
use mathlib.Core.List.{List, [], ◌∷◌, map, flat_map, Memᴰ}
use mathlib.Core.List.Memᴰ
use native.Mathlib.Nat.{not-suc-le-zero, eq-or-lt_of_le, le_of_suc-le-suc}
use native.Mathlib.Omega.{arith}
use lib.ListN.{length, get_or, length-append, length-map, get_or-append, get_or-eq_default}
use lib.Seq.{get_or_at}
use Rattle.common.specs.Lists.{up_to}

-- The members of a list and their places

module _ {A : Type 0} where
  pub mem-get_or : (xs : List A) (i : ℕ) (d : A) → i < length xs → Memᴰ (get_or xs i d) xs
  mem-get_or [] i d h = absurd (not-suc-le-zero h)
  mem-get_or (x ∷ xs) zero d h = head refl
  mem-get_or (x ∷ xs) (suc i) d h = tail (mem-get_or xs i d (omega arith))

  pub mem_index : (d : A) {x : A} {xs : List A} → Memᴰ x xs → (i : ℕ) × (i < length xs) × (get_or xs i d ≡ x)
  mem_index d (head e) = (0, omega arith, sym e)
  mem_index d (tail m) = let r = mem_index d m in (suc r.0, omega arith, r.2)

-- The members of a list made of a list for each member

module _ {A B : Type 0} (f : A → List B) {y : B} where
  pub flat_map-mem : {x : A} {xs : List A} → Memᴰ x xs → Memᴰ y (f x) → Memᴰ y (flat_map f xs)
  unfolding flat_map
  flat_map-mem {xs = []} x6 l = elim x6 [ ]
  flat_map-mem {xs = z ∷ zs} (head e) l = Memᴰ.append_left (flat_map f zs) (subst (λ x. Memᴰ y (f x)) e l)
  flat_map-mem {xs = z ∷ zs} (tail m) l = Memᴰ.append_right (f z) (flat_map-mem m l)

  pub flat_map-from : (xs : List A) → Memᴰ y (flat_map f xs) → (x : A) × Memᴰ x xs × Memᴰ y (f x)
  unfolding flat_map
  flat_map-from [] l = absurd (Memᴰ.not-nil l)
  flat_map-from (x ∷ xs) l =
      ⊎_elim
      (λ here. (x, head refl, here))
      (λ later. let (z, z-in, y-in) = flat_map-from xs later in (z, tail z-in, y-in))
      (Memᴰ.append_cases (f x) l)

-- The numbers below n

pub up_to-mem : {i n : ℕ} → i < n → Memᴰ i (up_to n)
unfolding up_to
up_to-mem {i} {n = zero} h = absurd (not-suc-le-zero h)
up_to-mem {i} {n = suc n} h =
    ⊎_elim
    (λ e. Memᴰ.append_right (up_to n) (head e))
    (λ l. Memᴰ.append_left (n ∷ []) (up_to-mem l))
    (eq-or-lt_of_le (le_of_suc-le-suc h))

pub up_to-below : {i : ℕ} (n : ℕ) → Memᴰ i (up_to n) → i < n
unfolding up_to
up_to-below zero m = absurd (Memᴰ.not-nil m)
up_to-below (suc n) m =
    ⊎_elim
    (λ l. omega (arith, up_to-below n l))
    (λ r. omega (arith, Memᴰ.eq_of_singleton r))
    (Memᴰ.append_cases (up_to n) m)

pub length-up_to : (n : ℕ) → length (up_to n) ≡ n
unfolding up_to
length-up_to zero = refl
length-up_to (suc n) = omega (arith, length-append (up_to n) (n ∷ []), length-up_to n)

pub get_or-up_to : {i n : ℕ} (d : ℕ) → i < n → get_or (up_to n) i d ≡ i
unfolding up_to
get_or-up_to {i} {n = zero} d h = absurd (not-suc-le-zero h)
get_or-up_to {i} {n = suc n} d h =
    ⊎_elim
    (λ e. get_or_at (up_to n) n [] d i (length-up_to n ∙ sym e) ∙ sym e)
    (λ l. get_or-append (up_to n) (n ∷ []) d i (rw length-up_to l) ∙ get_or-up_to d l)
    (eq-or-lt_of_le (le_of_suc-le-suc h))

module _ {A B : Type 0} (f : A → B) where
  pub get_or-map : (xs : List A) (i : ℕ) (d : A) (e : B) → i < length xs → get_or (map f xs) i e ≡ f (get_or xs i d)
  get_or-map [] i d e h = absurd (not-suc-le-zero h)
  get_or-map (x ∷ xs) zero d e h = refl
  get_or-map (x ∷ xs) (suc i) d e h = get_or-map xs i d e (omega arith)

module _ {B : Type 0} (f : ℕ → B) where
  pub length-map-up_to : (n : ℕ) → length (map f (up_to n)) ≡ n
  length-map-up_to n = length-map (up_to n) f ∙ length-up_to n

  pub get_or-map-up_to : {i n : ℕ} (d : B) → i < n → get_or (map f (up_to n)) i d ≡ f i
  get_or-map-up_to {i} {n} d h = get_or-map f (up_to n) i 0 d (rw length-up_to h) ∙ ap f (get_or-up_to 0 h)

  pub get_or-map-up_to-past : {i n : ℕ} (d : B) → n ≤ i → get_or (map f (up_to n)) i d ≡ d
  get_or-map-up_to-past {i} {n} d h = get_or-eq_default (map f (up_to n)) d (rw length-map-up_to h)
