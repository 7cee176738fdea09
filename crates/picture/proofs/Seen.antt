-- The machines that were seen and their numbers, with those of one node more.
-- Assumes nothing.
use Prim.Native.Nat.{ℕ, suc, ◌+◌, ◌≤◌, ◌<◌}
use mathlib.Core.Path.{◌≡◌, refl, sym, ap, ◌∙◌}
use mathlib.Core.Logic.{⊎_elim}
use mathlib.Core.List.{List, Memᴰ}
use mathlib.Core.Bool.{true, false, ◌&&◌}
use native.Mathlib.Omega.{arith}
use borrow.Author.Tests.{eq-eqb, ne_eqb}
use lib.Dec.{eqb}
use lib.ListN.{length, get_or}
use Rattle.common.specs.Bits.{bit}
use Rattle.common.specs.Lists.{up_to}
use Rattle.common.proofs.Bools.{by_cases, true-false, false-of-not-true, and_intro, and_left, or_cases}
use Rattle.common.proofs.Lists.{filter-mem, filter-holds, filter-cong}
use Rattle.common.proofs.Least.{last-or-below}
use Rattle.common.proofs.Members.{mem_index, up_to-mem, up_to-below}
use Rattle.common.proofs.Sums.{flat_map-up_to-more}
use Rattle.sets.specs.Kept.Sets.{union, both, elements}
use Rattle.sets.proofs.Laws.{bit-none, bit-union, bit-both, no_bits}
use Rattle.sets.proofs.Members.{bit-element}
use Rattle.search.specs.Kept.Search.{Marked}
use Rattle.picture.specs.Kept.Matched.{Spans, labelled, NodesStand}
use Rattle.picture.specs.Kept.Rows.{node_of}
use Rattle.picture.proofs.Spanning.{spans-then}

elements-some : (s : ℕ) → ((i : ℕ) → bit s i ≡ true → i < 64) → (s ≡ 0 → ⊥) → 0 < length (elements s)
elements-some s small z =
    let n : ¬ (length (elements s) ≤ 0) = λ l. z (no_bits (λ i. false-of-not-true (λ t.
    let (k, k-in, e) = mem_index 0 (bit-element s (small i t) t) in
    let f : ⊥ = omega arith in f))) in
    omega arith

no-common : (a b i : ℕ) → both a b ≡ 0 → bit a i ≡ true → bit b i ≡ false
no-common a b i e t =
    by_cases (bit b i)
    (λ u. absurd (true-false (and_intro t u) (sym (bit-both a b i) ∙ rw e (bit-none i))))
    (λ f. f)

module _ (numbers : List ℕ) (seen : ℕ) where
  pub is-labelled : {i : ℕ} → i < 64 → bit seen i ≡ true → Memᴰ i (labelled numbers seen (get_or numbers i 0))
  unfolding labelled
  is-labelled {i} l t = filter-mem _ (up_to-mem l) (and_intro t (eq-eqb (get_or numbers i 0) (get_or numbers i 0) refl))

  pub labelled-seen : {i : ℕ} (j : ℕ) → Memᴰ i (labelled numbers seen j) → bit seen i ≡ true
  unfolding labelled
  labelled-seen {i} j i-in = and_left _ _ (filter-holds (λ i. bit seen i && eqb (get_or numbers i 0) j) (up_to 64) i-in)

-- one node more
module _ {numbers after : List ℕ} (seen : ℕ) {machines k : ℕ} (apart : both machines seen ≡ 0)
    (below : (i : ℕ) → bit seen i ≡ true → get_or numbers i 0 < k) (marked : Marked numbers machines k after) where
  pub labelled-same : (j : ℕ) → j < k → labelled after (union seen machines) j ≡ labelled numbers seen j
  unfolding labelled
  labelled-same j l =
      filter-cong _ _ (up_to 64) (λ i i-in.
      let number = marked.bytes i (up_to-below 64 i-in) in
      by_cases (bit machines i)
      (λ t.
      rw (bit-union, t, rw t at number, no-common machines seen i apart t, ne_eqb k j (omega arith)) refl)
      (λ f. rw (bit-union, f, rw f at number) (by_cases (bit seen i) (λ t. rw t refl) (λ u. rw u refl))))

  pub labelled-new : labelled after (union seen machines) k ≡ elements machines
  unfolding labelled elements
  labelled-new =
      filter-cong _ _ (up_to 64) (λ i i-in.
      let number = marked.bytes i (up_to-below 64 i-in) in
      by_cases (bit machines i)
      (λ t. rw (bit-union, t, rw t at number, no-common machines seen i apart t, eq-eqb k k refl) refl)
      (λ f.
      rw (bit-union, f, rw f at number) (by_cases (bit seen i)
      (λ t. rw (t, ne_eqb (get_or numbers i 0) k (let l = below i t in λ e. let z : ⊥ = omega arith in z)) refl)
      (λ u. rw u refl))))

  below_next : ((i : ℕ) → bit (union seen machines) i ≡ true → i < 32) → (i : ℕ) → bit (union seen machines) i ≡ true
      → get_or after i 0 < k + 1
  below_next few i t =
      let number = marked.bytes i (let l = few i t in omega arith) in
      by_cases (bit machines i)
      (λ m. omega (arith, rw m at number))
      (λ f.
      let old : bit seen i ≡ true =
      ⊎_elim (λ u. u) (λ m. absurd (true-false m f))
      (or_cases (bit seen i) (bit machines i) (sym (bit-union seen machines i) ∙ t)) in
      omega (arith, rw f at number, below i old))

-- the nodes stand with it
pub stand-next : {text numbers after : List ℕ} {seen k at machines end : ℕ} → NodesStand text numbers seen k at
    → both machines seen ≡ 0 → (machines ≡ 0 → ⊥) → ((i : ℕ) → bit machines i ≡ true → i < 32)
    → Marked numbers machines k after → Spans text at (node_of k (elements machines)) end
    → NodesStand text after (union seen machines) (suc k) end
stand-next {numbers = numbers} {after} {seen} {k} {machines = machines} stand apart some few marked line =
    record {
      few = now-few;
      below = λ i t. omega (arith, below_next seen apart stand.below marked now-few i t);
      some = λ j h.
          ⊎_elim
          (λ (q : j ≡ k). let s = elements-some machines (λ i t. omega (arith, few i t)) some in rw q (rw new s))
          (λ s. rw (old j s) (stand.some j s))
          (last-or-below h);
      spans =
          let lines = flat_map-up_to-more (λ j. node_of j (labelled numbers seen j))
          (λ j. node_of j (labelled after (union seen machines) j)) k (λ j h. ap (node_of j) (old j h)) in
          rw lines (spans-then stand.spans (rw new line));
    }
  where
    now-few : (i : ℕ) → bit (union seen machines) i ≡ true → i < 32
    now-few i t =
        ⊎_elim (stand.few i) (few i) (or_cases (bit seen i) (bit machines i) (sym (bit-union seen machines i) ∙ t))

    old : (j : ℕ) → j < k → labelled after (union seen machines) j ≡ labelled numbers seen j
    old j h = labelled-same seen apart stand.below marked j h

    new : labelled after (union seen machines) k ≡ elements machines
    new = labelled-new seen apart stand.below marked
