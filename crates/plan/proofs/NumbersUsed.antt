-- The group numbers of a plan: which of them occur, as a set, and that they have no gaps exactly if the set is that of
-- the numbers below their count.
-- Assumes nothing.
use Prim.Native.Nat.{ℕ, ◌+◌, ◌^◌, ◌≤◌, ◌<◌, zero-le}
use mathlib.Core.Path.{◌≡◌, sym, ap, ◌∙◌}
use mathlib.Core.List.Memᴰ
use mathlib.Core.List.{List, Memᴰ}
use mathlib.Core.Bool.{true, false, ◌||◌}
use native.Mathlib.Numerals.{add-one}
use native.Mathlib.Omega.{arith}
use borrow.Author.Tests.{eqb-true, eq-eqb, ne_eqb, lt-ltb, ltb-false, ltb-true}
use lib.Dec.{eqb, ltb}
use lib.ListN.{length, take}
use lib.Seq.{take-suc, take_all}
use Rattle.common.specs.Bits.{bit}
use Rattle.common.specs.Lists.{up_to, any}
use Rattle.common.proofs.Bools.{by_cases, false-of-not-true, bool-ext}
use Rattle.common.proofs.Least.{eqb_swap}
use Rattle.common.proofs.Lists.{all-at, all-intro, any_some, any-fails, covers-length}
use Rattle.common.proofs.Members.{mem_index, up_to-mem, up_to-below}
use Rattle.common.proofs.Snoc.{any_snoc}
use Rattle.sets.specs.Kept.Sets.{below}
use Rattle.sets.proofs.Digits.{same_bits}
use Rattle.sets.proofs.Laws.{bit-none, bit-first}
use Rattle.plan.specs.Groups.{Grouping, group_of, group_count}
use Rattle.plan.specs.Reading.{gapless}
use Rattle.plan.specs.Kept.Outline.{Used}
use Rattle.plan.proofs.Named.{group-below-count}

-- The loop: the first i numbers are in the set r

pub record UsedUpto (numbers : List ℕ) (r i : ℕ) : Type 0 where
  pub within : i ≤ length numbers
  pub bits : (k : ℕ) → k < 64 → bit r k ≡ any (eqb k) (take i numbers)

module _ (numbers : List ℕ) where
  pub used-none : UsedUpto numbers 0 0
  unfolding any
  used-none = record { within = zero-le; bits = λ k h. bit-none k }

  pub used-next : {r i g k t : ℕ} → UsedUpto numbers r i → i < length numbers → g ≡ group_of numbers i → k ≡ g
      → ((j : ℕ) → j < 64 → bit t j ≡ (bit r j || eqb k j)) → UsedUpto numbers t (i + 1)
  unfolding any
  used-next {i = i} u h e f bits =
      record {
        within = omega arith;
        bits = λ k l.
            bits k l ∙ rw (u.bits k l, f, e, add-one, take-suc numbers i 0 h, any_snoc)
            (ap (◌||◌ (any (eqb k) (take i numbers))) (eqb_swap _ k));
      }

  pub used-end : {r i : ℕ} → UsedUpto numbers r i → length numbers ≤ i → Used numbers r
  used-end {i = i} u h = record { bits = λ k l. u.bits k l ∙ ap (any (eqb k)) (take_all i numbers h) }

-- No gaps

module _ (groups : Grouping) where
  gapless-has : gapless groups ≡ true → (k : ℕ) → k < group_count groups → Memᴰ k groups
  unfolding gapless
  gapless-has t k h =
      let r = any_some (eqb k) groups (all-at _ t (up_to-mem h)) in
      Memᴰ.cast (eqb-true k r.0 r.2) r.1

  -- numbers without gaps are no more than the machines
  pub gapless-count : gapless groups ≡ true → group_count groups ≤ length groups
  gapless-count t = covers-length (group_count groups) groups (gapless-has t)

  pub gapless-fails : {n : ℕ} → length groups ≤ 32 → n ≡ group_count groups → 32 < n → false ≡ gapless groups
  gapless-fails few e h = sym (false-of-not-true (λ t. omega (arith, gapless-count t)))

  occurring-below : {k : ℕ} → Memᴰ k groups → k < group_count groups
  occurring-below m =
      let r = mem_index 0 m in
      omega (arith, group-below-count groups r.0 r.1, r.2)

  -- a number from the count on does not occur
  none_above : (k : ℕ) → group_count groups ≤ k → any (eqb k) groups ≡ false
  none_above k h = any-fails (eqb k) groups (λ x m. ne_eqb k x (λ e. omega (arith, occurring-below m)))

  pub gapless-set : {n s t : ℕ} → n ≡ group_count groups → n ≤ 32 → Used groups s → s < 2 ^ 64 → t ≡ below n → t < 2 ^ 64
      → eqb s t ≡ gapless groups
  unfolding gapless
  gapless-set {n} {s} {t} e few used hs et ht =
      bool-ext
      (λ same.
      let q : s ≡ t = eqb-true s t same in
      all-intro _ (up_to (group_count groups)) (λ k m.
      let l = up_to-below (group_count groups) m in
      sym (used.bits k (omega arith)) ∙ rw (q, et, bit-first) (lt-ltb k n (omega arith))))
      (λ g.
      eq-eqb s t (same_bits 64 hs ht (λ i h.
      used.bits i h ∙ rw (et, bit-first)
      (by_cases (ltb i n)
      (λ l. rw l (all-at _ g (up_to-mem (omega (arith, ltb-true i n l)))))
      (λ f. rw f (none_above i (omega (arith, ltb-false i n f))))))))
