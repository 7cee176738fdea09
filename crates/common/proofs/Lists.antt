-- Laws of "for each", "some" and "those that".
-- Assumes nothing.
use Prim.Native.Nat.{ℕ, zero, suc, ◌≤◌, ◌<◌, zero-le, suc-le-suc}
use mathlib.Core.Path.{◌≡◌, refl, sym, ap, ap₂, ◌∙◌}
use mathlib.Core.Logic.{⊎_elim}
use mathlib.Core.List.Memᴰ.{head}
use mathlib.Core.List.Memᴰ.{tail}
use mathlib.Core.List.{List, [], ◌∷◌, ◌++◌, map, Memᴰ}
use mathlib.Core.List.Memᴰ
use mathlib.Core.List.{append-nil}
use mathlib.Core.Bool.{Bool, true, false, not, ◌&&◌, ◌||◌, and_assoc, or_assoc}
use native.Mathlib.Omega.{arith}
use borrow.Author.Tests.{eq-eqb, ne_eqb}
use lib.Dec.{eqb}
use lib.ListN.{length, take, drop}
use Rattle.common.specs.Lists.{all, any, filter}
use Rattle.common.proofs.Bools.{by_cases, true-false, false-of-not-true, and_intro, and_left, and_right}
use Rattle.common.proofs.Bools.{or_left, or_right, or-false-left, or-false-right, not_of_false, not-of-true}
use Rattle.common.proofs.Members.{mem_index}

-- For each, and some

module _ {A : Type 0} (p : A → Bool) where
  pub all-at : {x : A} {xs : List A} → all p xs ≡ true → Memᴰ x xs → p x ≡ true
  unfolding all
  all-at {xs = []} h x6 = elim x6 [ ]
  all-at {xs = y ∷ ys} h (head e) = ap p e ∙ and_left _ _ h
  all-at {xs = y ∷ ys} h (tail m) = all-at (and_right (p y) _ h) m

  pub all-intro : (xs : List A) → ((x : A) → Memᴰ x xs → p x ≡ true) → all p xs ≡ true
  unfolding all
  all-intro [] h = refl
  all-intro (x ∷ xs) h = and_intro (h x (head refl)) (all-intro xs (λ y m. h y (tail m)))

  pub all-fails : (xs : List A) → all p xs ≡ false → (x : A) × Memᴰ x xs × (p x ≡ false)
  unfolding all
  all-fails [] h = absurd (true-false refl h)
  all-fails (x ∷ xs) h =
      by_cases (p x)
      (λ t. let r = all-fails xs (rw t at h) in (r.0, tail r.1, r.2))
      (λ f. (x, head refl, f))

  pub any-intro : {x : A} {xs : List A} → Memᴰ x xs → p x ≡ true → any p xs ≡ true
  unfolding any
  any-intro {xs = []} x6 t = elim x6 [ ]
  any-intro {xs = y ∷ ys} (head e) t = or_left _ (ap p (sym e) ∙ t)
  any-intro {xs = y ∷ ys} (tail m) t = or_right (p y) (any-intro m t)

  pub any_some : (xs : List A) → any p xs ≡ true → (x : A) × Memᴰ x xs × (p x ≡ true)
  unfolding any
  any_some [] h = absurd (true-false h refl)
  any_some (x ∷ xs) h =
      by_cases (p x)
      (λ t. (x, head refl, t))
      (λ f. let r = any_some xs (rw f at h) in (r.0, tail r.1, r.2))

  pub any_none : {x : A} {xs : List A} → any p xs ≡ false → Memᴰ x xs → p x ≡ false
  any_none h m = false-of-not-true (λ t. true-false (any-intro m t) h)

  pub any-fails : (xs : List A) → ((x : A) → Memᴰ x xs → p x ≡ false) → any p xs ≡ false
  any-fails xs h = false-of-not-true (λ t. let r = any_some xs t in true-false r.2 (h r.0 r.1))

  pub all_append : (xs ys : List A) → all p (xs ++ ys) ≡ (all p xs && all p ys)
  unfolding all
  all_append [] ys = refl
  all_append (x ∷ xs) ys = ap (◌&&◌ (p x)) (all_append xs ys) ∙ sym (and_assoc (p x) (all p xs) (all p ys))

  pub any_append : (xs ys : List A) → any p (xs ++ ys) ≡ (any p xs || any p ys)
  unfolding any
  any_append [] ys = refl
  any_append (x ∷ xs) ys = ap (◌||◌ (p x)) (any_append xs ys) ∙ sym (or_assoc (p x) (any p xs) (any p ys))

module _ {A B : Type 0} (p : B → Bool) (f : A → B) where
  pub all_map : (xs : List A) → all p (map f xs) ≡ all (λ x. p (f x)) xs
  unfolding all
  all_map [] = refl
  all_map (x ∷ xs) = ap (◌&&◌ (p (f x))) (all_map xs)

  pub any-map : (xs : List A) → any p (map f xs) ≡ any (λ x. p (f x)) xs
  unfolding any
  any-map [] = refl
  any-map (x ∷ xs) = ap (◌||◌ (p (f x))) (any-map xs)

-- Those that

module _ {A : Type 0} (p : A → Bool) where
  pub filter-keeps : (x : A) (xs : List A) → p x ≡ true → filter p (x ∷ xs) ≡ x ∷ filter p xs
  unfolding filter
  filter-keeps x xs t = rw t

  pub filter-drops : (x : A) (xs : List A) → p x ≡ false → filter p (x ∷ xs) ≡ filter p xs
  unfolding filter
  filter-drops x xs f = rw f

  pub filter-mem : {x : A} {xs : List A} → Memᴰ x xs → p x ≡ true → Memᴰ x (filter p xs)
  filter-mem {xs = []} x6 t = elim x6 [ ]
  filter-mem {xs = y ∷ ys} (head e) t = rw (filter-keeps y ys (ap p (sym e) ∙ t)) (head e)
  filter-mem {xs = y ∷ ys} (tail m) t =
      by_cases (p y)
      (λ k. rw (filter-keeps y ys k) (tail (filter-mem m t)))
      (λ k. rw (filter-drops y ys k) (filter-mem m t))

  pub filter-from : {x : A} (xs : List A) → Memᴰ x (filter p xs) → Memᴰ x xs
  unfolding filter
  filter-from [] m = absurd (Memᴰ.not-nil m)
  filter-from (y ∷ ys) m =
      by_cases (p y)
      (λ k. ⊎_elim (λ e. head e) (λ l. tail (filter-from ys l)) (Memᴰ.cases_cons (rw (filter-keeps y ys k) at m)))
      (λ k. tail (filter-from ys (rw (filter-drops y ys k) at m)))

  pub all_filter : (xs : List A) → all p (filter p xs) ≡ true
  unfolding all filter
  all_filter [] = refl
  all_filter (x ∷ xs) = by_cases (p x) (λ t. rw t (and_intro t (all_filter xs))) (λ f. rw f (all_filter xs))

  pub filter-holds : {x : A} (xs : List A) → Memᴰ x (filter p xs) → p x ≡ true
  filter-holds xs m = all-at p (all_filter xs) m

  pub filter-append : (xs ys : List A) → filter p (xs ++ ys) ≡ filter p xs ++ filter p ys
  unfolding filter
  filter-append [] ys = refl
  filter-append (x ∷ xs) ys =
      by_cases (p x) (λ t. rw t (ap (◌∷◌ x) (filter-append xs ys))) (λ f. rw f (filter-append xs ys))

  pub filter-all : (xs : List A) → all p xs ≡ true → filter p xs ≡ xs
  unfolding all filter
  filter-all [] h = refl
  filter-all (x ∷ xs) h = filter-keeps x xs (and_left _ _ h) ∙ ap (◌∷◌ x) (filter-all xs (and_right (p x) _ h))

  pub filter_none : (xs : List A) → any p xs ≡ false → filter p xs ≡ []
  unfolding any filter
  filter_none [] h = refl
  filter_none (x ∷ xs) h = filter-drops x xs (or-false-left _ _ h) ∙ filter_none xs (or-false-right (p x) _ h)

  pub length-filter : (xs : List A) → length (filter p xs) ≤ length xs
  unfolding filter
  length-filter [] = zero-le
  length-filter (x ∷ xs) =
      by_cases (p x) (λ t. rw t (suc-le-suc (length-filter xs))) (λ f. rw f (omega (arith, length-filter xs)))

-- for each of those that: each is one or is not among those
pub all-filtered : {A : Type 0} (p q : A → Bool) (xs : List A) → all p (filter q xs) ≡ all (λ x. not (q x) || p x) xs
unfolding all filter
all-filtered p q [] = refl
all-filtered p q (x ∷ xs) = by_cases (q x) (λ t. rw t (ap (◌&&◌ (p x)) (all-filtered p q xs))) (λ f. rw f (all-filtered p q xs))

-- Functions that agree on the members

module _ {A : Type 0} (p q : A → Bool) where
  pub all-cong : (xs : List A) → ((x : A) → Memᴰ x xs → p x ≡ q x) → all p xs ≡ all q xs
  unfolding all
  all-cong [] h = refl
  all-cong (x ∷ xs) h = ap₂ ◌&&◌ (h x (head refl)) (all-cong xs (λ y m. h y (tail m)))

  pub any-cong : (xs : List A) → ((x : A) → Memᴰ x xs → p x ≡ q x) → any p xs ≡ any q xs
  unfolding any
  any-cong [] h = refl
  any-cong (x ∷ xs) h = ap₂ ◌||◌ (h x (head refl)) (any-cong xs (λ y m. h y (tail m)))

  pub filter-cong : (xs : List A) → ((x : A) → Memᴰ x xs → p x ≡ q x) → filter p xs ≡ filter q xs
  unfolding filter
  filter-cong [] h = refl
  filter-cong (x ∷ xs) h = rw (h x (head refl), filter-cong xs (λ y m. h y (tail m)))

-- the image of the first n, and of the others
module _ {A B : Type 0} (f : A → B) where
  pub map-take : (n : ℕ) (xs : List A) → map f (take n xs) ≡ take n (map f xs)
  map-take zero xs = refl
  map-take (suc n) [] = refl
  map-take (suc n) (x ∷ xs) = ap (◌∷◌ (f x)) (map-take n xs)

  pub map-drop : (n : ℕ) (xs : List A) → map f (drop n xs) ≡ drop n (map f xs)
  map-drop zero xs = refl
  map-drop (suc n) [] = refl
  map-drop (suc n) (x ∷ xs) = map-drop n xs

pub map-cong : {A B : Type 0} (f g : A → B) (xs : List A) → ((x : A) → Memᴰ x xs → f x ≡ g x) → map f xs ≡ map g xs
map-cong f g [] h = refl
map-cong f g (x ∷ xs) h = ap₂ ◌∷◌ (h x (head refl)) (map-cong f g xs (λ y m. h y (tail m)))

-- Counting those that: fewer where the test is stronger, and where it is stronger at a member

module _ {A : Type 0} (p q : A → Bool) where
  pub length-filter-mono : (xs : List A) → ((x : A) → Memᴰ x xs → p x ≡ true → q x ≡ true)
      → length (filter p xs) ≤ length (filter q xs)
  unfolding filter
  length-filter-mono [] h = zero-le
  length-filter-mono (x ∷ xs) h =
      let ih = length-filter-mono xs (λ y m. h y (tail m)) in
      by_cases (p x)
      (λ t. rw (t, h x (head refl) t) (suc-le-suc ih))
      (λ f. rw f (by_cases (q x) (λ t. rw t (omega arith)) (λ k. rw k ih)))

  pub length-filter-less : {x : A} {xs : List A} → ((y : A) → Memᴰ y xs → p y ≡ true → q y ≡ true)
      → Memᴰ x xs → p x ≡ false → q x ≡ true → length (filter p xs) < length (filter q xs)
  unfolding filter
  length-filter-less {xs = []} h x12 f t = elim x12 [ ]
  length-filter-less {xs = y ∷ ys} h (head e) f t =
      rw (ap p (sym e) ∙ f, ap q (sym e) ∙ t) (suc-le-suc (length-filter-mono ys (λ z m. h z (tail m))))
  length-filter-less {xs = y ∷ ys} h (tail l) f t =
      let ih = length-filter-less (λ z m. h z (tail m)) l f t in
      by_cases (p y)
      (λ k. rw (k, h y (head refl) k) (suc-le-suc ih))
      (λ k. rw k (by_cases (q y) (λ j. rw j (omega arith)) (λ j. rw j ih)))

module _ {A : Type 0} (p : A → Bool) (xs : List A) (x : A) where
  pub filter-snoc-keeps : p x ≡ true → filter p (xs ++ (x ∷ [])) ≡ filter p xs ++ (x ∷ [])
  unfolding filter
  filter-snoc-keeps t = filter-append p xs (x ∷ []) ∙ ap (◌++◌ (filter p xs)) (filter-keeps p x [] t)

  pub filter-snoc-drops : p x ≡ false → filter p (xs ++ (x ∷ [])) ≡ filter p xs
  unfolding filter
  filter-snoc-drops f =
      filter-append p xs (x ∷ []) ∙ ap (◌++◌ (filter p xs)) (filter-drops p x [] f) ∙ append-nil (filter p xs)

-- there are some that, where one is
pub length-filter-some : {A : Type 0} (p : A → Bool) {x : A} {xs : List A} → Memᴰ x xs → p x ≡ true
    → 0 < length (filter p xs)
length-filter-some p {x} m t = let r = mem_index x (filter-mem p m t) in omega arith

-- a list that has every number below n has at least n
pub covers-length : (n : ℕ) (xs : List ℕ) → ((k : ℕ) → k < n → Memᴰ k xs) → n ≤ length xs
covers-length zero xs h = zero-le
covers-length (suc n) xs h =
    let others : ℕ → Bool = λ k. not (eqb k n) in
    let rest = covers-length n (filter others xs)
    (λ k l. filter-mem others (h k (omega arith)) (not_of_false (ne_eqb k n (omega arith)))) in
    let less = length-filter-less others (λ k. true) (λ k m t. refl) (h n (omega arith))
    (not-of-true (eq-eqb n n refl)) refl in
    omega (arith, length-filter (λ k. true) xs)
