-- The loops over group numbers and over the sizes of groups: how many groups, the smallest machine of one, the first
-- that is large, the entries of all.
-- Assumes nothing.
use Prim.Native.Nat.{ℕ, suc, ◌+◌, ◌*◌, ◌≤◌, ◌<◌, max, zero-le}
use mathlib.Core.Path.{◌≡◌, refl, sym, ap, ◌∙◌}
use mathlib.Core.List.Memᴰ
use mathlib.Core.List.{List, map, map-append}
use native.Mathlib.Nat.{mul-le-mul}
use native.Mathlib.Numerals.{add-one}
use native.Mathlib.Omega.{arith}
use borrow.Author.Tests.{eq-eqb, ne_eqb, lt-ltb, le-ltb, ltb-true, ltb-false}
use lib.Dec.{eqb, ltb}
use lib.ListN.{length, get_or, take, drop, length-take, drop_of_length-le}
use lib.Seq.{drop-cons}
use Rattle.std.proofs.lemmas.List.{get_or-take}
use Rattle.std.specs.Prelude.{Option, Some, None, IfSome, is_some}
use Rattle.std.specs.List.{position, position_or_len}
use Rattle.std.proofs.lemmas.List.Sums.{fails_before_first, passes_at_first}
use mathlib.Core.Bool.{true, false}
use Rattle.std.specs.Option.{unwrap_or}
use Rattle.common.specs.Lists.{up_to, any, sum, maximum}
use Rattle.common.proofs.Bools.{by_cases, true-false}
use Rattle.common.proofs.Members.{mem_index}
use Rattle.common.proofs.Search.{find_none, find-up_to-below, find-up_to-is, find-up_to-none}
use Rattle.common.proofs.Sums.{sum-append, maximum-is-least}
use Rattle.plan.specs.Groups.{Grouping, group_of, group_count, smallest_member}
use Rattle.plan.specs.Kept.Sizes.{SmallNumbers, first_large, entries_of}

-- How many groups

-- the first i numbers are counted in r
pub record Counted (numbers : Grouping) (i r : ℕ) : Type 0 where
  pub whole : max r (group_count (drop i numbers)) ≡ group_count numbers

module _ (numbers : Grouping) where
  pub counted_next : {i r g k q : ℕ} → Counted numbers i r → i < length numbers → g ≡ group_of numbers i → k ≡ g
      → q ≡ max r (k + 1) → Counted numbers (i + 1) q
  unfolding group_count maximum
  counted_next {i} c l e f eq =
      record { whole = rw add-one (omega (arith, rw (drop-cons numbers i 0 l) at c.whole)) }

  pub counted-end : {i r : ℕ} → Counted numbers i r → length numbers ≤ i → r ≡ group_count numbers
  unfolding group_count maximum
  counted-end {i} c l = omega (arith, rw (drop_of_length-le numbers l) at c.whole)

  -- The smallest machine

  module _ (k : ℕ) where
    pub smallest-found : {i g : ℕ} → ((j : ℕ) → j < i → group_of numbers j ≡ k → ⊥) → i < length numbers
        → g ≡ group_of numbers i → g ≡ k → i ≡ smallest_member numbers k
    unfolding smallest_member
    smallest-found {i} before l e q =
        sym
        (find-up_to-is (λ i. eqb (group_of numbers i) k) 0 i l (eq-eqb _ _ (sym e ∙ q)) (λ j h. ne_eqb _ _ (before j h)))

    pub smallest-missing : {i : ℕ} → ((j : ℕ) → j < i → group_of numbers j ≡ k → ⊥) → length numbers ≤ i
        → 0 ≡ smallest_member numbers k
    unfolding smallest_member
    smallest-missing before l =
        sym (find-up_to-none (λ i. eqb (group_of numbers i) k) 0 (λ j h. ne_eqb _ _ (before j (omega arith))))

pub smallest-inside : (numbers : Grouping) (k : ℕ) → smallest_member numbers k ≤ length numbers
unfolding smallest_member
smallest-inside numbers k =
    by_cases (any (λ i. eqb (group_of numbers i) k) (up_to (length numbers)))
    (λ t. omega (arith, find-up_to-below (λ i. eqb (group_of numbers i) k) (length numbers) 0 t))
    (λ f. omega (arith, find_none (λ i. eqb (group_of numbers i) k) (up_to (length numbers)) 0 f))

-- numbers below 32 make at most 32 groups
pub groups-below : (numbers : List ℕ) → ((i : ℕ) → i < length numbers → get_or numbers i 0 < 32) → group_count numbers ≤ 32
unfolding group_count
groups-below numbers below =
    maximum-is-least (map suc numbers) 32 (λ x l.
    let r = Memᴰ.of_map suc numbers l in
    let s = mem_index 0 r.1 in
    omega (arith, below s.0 s.1, s.2, r.2))

pub few-groups : {numbers modes : List ℕ} {n : ℕ} → SmallNumbers numbers modes → n ≡ group_count numbers → n ≤ 32
few-groups {numbers} small e = rw e (groups-below numbers small.below)

-- The first large group

module _ (sizes : List ℕ) (n : ℕ) where
  large-found : {k : ℕ} → k < n → 64 < get_or sizes k 0 → ((j : ℕ) → j < k → get_or sizes j 0 ≤ 64)
      → k ≡ first_large sizes n
  unfolding first_large
  large-found {k} l h before =
      sym (find-up_to-is (λ i. ltb 64 (get_or sizes i 0)) n k l (lt-ltb _ _ h) (λ j b. le-ltb _ _ (before j b)))

  large-missing : ((j : ℕ) → j < n → get_or sizes j 0 ≤ 64) → n ≡ first_large sizes n
  unfolding first_large
  large-missing before = sym (find-up_to-none (λ i. ltb 64 (get_or sizes i 0)) n (λ j b. le-ltb _ _ (before j b)))

  pub large-position : {r : Option ℕ} → n ≤ length sizes → r ≡ position (ltb 64) (take n sizes)
      → (unwrap_or r n ≡ first_large sizes n) × IfSome r (λ k. k < n)
  large-position h q =
      let firsts = take n sizes in
      let k = position_or_len (ltb 64) firsts in
      let long = length-take n sizes in
      let before : (j : ℕ) → j < k → j < n → get_or sizes j 0 ≤ 64
      = λ j l b. ltb-false _ _ (rw (get_or-take n sizes j 0 b) at (fails_before_first (ltb 64) firsts j 0 l)) in
      by_cases (ltb k (length firsts))
      (λ t.
      let l : k < n = omega (arith, ltb-true _ _ t, long) in
      let large : ltb 64 (get_or sizes k 0) ≡ true
      = rw (get_or-take n sizes k 0 l) at (passes_at_first (ltb 64) firsts 0 (ltb-true _ _ t)) in
      rw (q, t) (large-found l (ltb-true _ _ large) (λ j b. before j b (omega arith)), l))
      (λ f. rw (q, f) (large-missing (λ j b. before j (omega (arith, ltb-false _ _ f, long)) b), tt))

-- whether there is one
pub large-there : {n : ℕ} (r : Option ℕ) → IfSome r (λ k. k < n) → true ≡ is_some r → unwrap_or r n < n
large-there (Some k) h e = h
large-there None h e = absurd (true-false (sym e) refl)

pub large-nowhere : {n : ℕ} (r : Option ℕ) → false ≡ is_some r → n ≤ unwrap_or r n
large-nowhere (Some k) e = absurd (true-false refl (sym e))
large-nowhere None e = omega arith

-- The entries of all

-- the entries of the first k groups are summed in r, each group's at most 255 × 255
pub record Summed (sizes : List ℕ) (k r : ℕ) : Type 0 where
  pub sum_is : r ≡ entries_of sizes k
  pub small : r ≤ 65025 * k

pub byte-product : {x y : ℕ} → x < 256 → y < 256 → x * y ≤ 65025
byte-product {x} {y} h l = let a : x ≤ 255 = omega arith in let b : y ≤ 255 = omega arith in mul-le-mul a b

module _ (sizes : List ℕ) where
  pub summed-none : Summed sizes 0 0
  unfolding entries_of up_to sum
  summed-none = record { sum_is = refl; small = zero-le }

  pub summed-next : (n : ℕ) {k r x : ℕ} → Summed sizes k r → k < length (take n sizes) → x ≡ get_or (take n sizes) k 0 → x < 256
      → Summed sizes (k + 1) (r + x * x)
  unfolding entries_of up_to sum
  summed-next n {k} {r} {x} s l q b =
      let e : x ≡ get_or sizes k 0 = q ∙ get_or-take n sizes k 0 (omega (arith, length-take n sizes)) in
      record {
        sum_is = rw (add-one, map-append, sum-append, ← s.sum_is, ← e) (omega arith);
        small = omega (arith, byte-product b b, s.small);
      }

  pub summed-end : {n k r : ℕ} → Summed sizes k r → k ≡ n → r ≡ entries_of sizes n
  summed-end s e = s.sum_is ∙ ap (entries_of sizes) e
