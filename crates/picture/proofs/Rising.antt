-- A set that is built of rising numbers, and the numbers of a rising list that are still to come.
-- Assumes nothing.
use Prim.Native.Nat.{ℕ, zero, suc, ◌+◌, ◌-◌, ◌≤◌, ◌<◌}
use mathlib.Core.Path.{◌≡◌, refl, sym, ap, subst, ◌∙◌}
use mathlib.Core.Logic.{⊎_elim}
use mathlib.Core.List.{List, [], ◌∷◌, ◌++◌, Memᴰ}
use mathlib.Core.Bool.{Bool, true, false, ◌||◌, or-false}
use native.Mathlib.Nat.{add-zero, add-suc}
use native.Mathlib.Omega.{arith}
use borrow.Author.Tests.{eq-eqb, ne_eqb, eqb-true, lt-ltb}
use lib.Dec.{eqb, ltb}
use lib.ListN.{length, get_or, length-append, get_or-append}
use lib.Seq.{get_or-append_seam}
use Rattle.common.specs.Bits.{bit}
use Rattle.common.specs.Lists.{up_to, filter}
use Rattle.common.proofs.Bools.{true-false, false-of-not-true, or_right, or_cases}
use Rattle.common.proofs.Lists.{all-intro, filter-all, filter-from, filter-holds, filter-cong}
use Rattle.common.proofs.Members.{mem-get_or, mem_index, up_to-below}
use Rattle.sets.specs.Kept.Sets.{alone, union, lowered, elements}
use Rattle.sets.proofs.Laws.{bit-none, bit-union, bit-alone, bit-lowered, no_bits}
use Rattle.sets.proofs.Members.{bit-element}
use Rattle.plan.proofs.ModeDigits.{Rising, filter-next, filter-rises, filter-below}

-- the numbers that are so are all below m
pub those-below : (q : ℕ → Bool) (m n : ℕ) → m ≤ n → ((j : ℕ) → q j ≡ true → j < m)
    → filter q (up_to n) ≡ filter q (up_to m)
those-below q m n l h =
    sym (filter-all (λ j. ltb j m) _ (all-intro (λ j. ltb j m) _ (λ j j-in. lt-ltb j m (h j (filter-holds q _ j-in)))))
    ∙ filter-below q m n l

-- a set that has i and more from i on
lowered_none : (s i j : ℕ) → lowered s i ≡ 0 → i ≤ j → bit s j ≡ false
lowered_none s i j e l =
    let k : i + (j - i) ≡ j = omega arith in
    ap (bit s) (sym k) ∙ sym (bit-lowered s i (j - i)) ∙ rw e (bit-none (j - i))

-- a number above all others comes last
pub elements-more : (s i : ℕ) → i < 64 → lowered s i ≡ 0 → elements (union s (alone i)) ≡ elements s ++ (i ∷ [])
unfolding elements
elements-more s i l e =
    let more = bit (union s (alone i)) in
    let bits : (j : ℕ) → more j ≡ (bit s j || eqb i j) = λ j. rw (bit-union, bit-alone) in
    let old : (j : ℕ) → bit s j ≡ true → j < i = λ j t.
    let n : ¬ (i ≤ j) = λ h. true-false t (lowered_none s i j e h) in omega arith in
    let new : (j : ℕ) → more j ≡ true → j < suc i = λ j t.
    let n : ¬ (suc i ≤ j) = λ h.
    true-false t (bits j ∙ rw (lowered_none s i j e (omega arith), ne_eqb i j (omega arith))) in omega arith in
    those-below more (suc i) 64 l new
    ∙ filter-next more i (bits i ∙ or_right (bit s i) (eq-eqb i i refl))
    ∙ ap (λ xs. xs ++ (i ∷ []))
    (filter-cong more (bit s) (up_to i) (λ j j-in.
    bits j ∙ rw (ne_eqb i j (let n = up_to-below i j-in in omega arith)) (or-false (bit s j)))
    ∙ sym (those-below (bit s) i 64 (omega arith) old))

-- the set is still of numbers below n
pub grown-below : (s : ℕ) {i n s' : ℕ} → ((j : ℕ) → bit s j ≡ true → j < n) → i < n → s' ≡ union s (alone i)
    → (j : ℕ) → bit s' j ≡ true → j < n
grown-below s {i} {n} {s'} old l e j t =
    let bits : bit s' j ≡ (bit s j || eqb i j) = rw (e, bit-union, bit-alone) in
    ⊎_elim (old j) (λ new. omega (arith, eqb-true i j new)) (or_cases (bit s j) (eqb i j) (sym bits ∙ t))

-- Numbers that rise

rises-far : (xs : List ℕ) → Rising xs → (i k : ℕ) → suc (i + k) < length xs → get_or xs i 0 < get_or xs (suc (i + k)) 0
rises-far xs up i zero l = rw add-zero (up i (omega arith))
rises-far xs up i (suc k) l =
    rw add-suc (omega (arith, rises-far xs up i k (omega arith), up (suc (i + k)) (omega arith)))

rises-before : (xs ys : List ℕ) (x y : ℕ) → Rising (xs ++ (y ∷ ys)) → Memᴰ x xs → x < y
rises-before xs ys x y up x-in =
    let (i, l, e) = mem_index 0 x-in in
    let k : suc (i + (length xs - suc i)) ≡ length xs = omega arith in
    let far = rises-far (xs ++ (y ∷ ys)) up i (length xs - suc i) (omega (arith, length-append xs (y ∷ ys))) in
    omega (arith, rw (k, get_or-append xs (y ∷ ys) 0 i l, get_or-append_seam xs y ys 0) at far)

-- The numbers below n that are so: those of a set, and then j and others

module _ (q : ℕ → Bool) (n s j : ℕ) (todo : List ℕ) (e : filter q (up_to n) ≡ elements s ++ (j ∷ todo)) where
  pub next-below : j < n
  next-below =
      let xs = elements s in
      let there = mem-get_or (xs ++ (j ∷ todo)) (length xs) 0 (omega (arith, length-append xs (j ∷ todo))) in
      let j-in : Memᴰ j (filter q (up_to n)) = rw e (rw (get_or-append_seam xs j todo 0) at there) in
      up_to-below n (filter-from q (up_to n) j-in)

  pub next-rises : ((i : ℕ) → bit s i ≡ true → i < 64) → lowered s j ≡ 0
  next-rises small =
      no_bits (λ i. bit-lowered s j i ∙ false-of-not-true (λ t.
      let before = rises-before (elements s) todo (j + i) j (subst Rising e (filter-rises q n))
      (bit-element s (small (j + i) t) t) in
      let f : ⊥ = omega arith in f))
