-- The loops that build sets of machines: those that reach one another, those outside a group; and the next group ready.
-- Assumes nothing.
use Prim.Native.Nat.{ℕ, ◌^◌, ◌<◌}
use mathlib.Core.Path.{◌≡◌, sym, ◌∙◌}
use mathlib.Core.List.{List}
use mathlib.Core.Bool.{Bool, true, false, ◌&&◌, ◌||◌, and-true, and-false, or-false}
use native.Mathlib.Omega.{arith}
use borrow.Author.Tests.{eqb-true, eq-eqb, ne_eqb, lt-ltb, le-ltb, ltb-true}
use lib.Dec.{eqb}
use lib.ListN.{get_or}
use Rattle.common.specs.Bits.{bit}
use Rattle.common.proofs.Bools.{by_cases, true-false, true-of-not-false, false-of-not-true}
use Rattle.common.proofs.Search.{find-up_to-is, find-up_to-none}
use Rattle.sets.specs.Kept.Sets.{alone, below, less, least}
use Rattle.sets.proofs.Laws.{bit-none, bit-alone, bit-first, bit-less, less-from, less-not, less-intro}
use Rattle.sets.proofs.Members.{least-before, least-member, taken-fits}
use Rattle.search.specs.Kept.Search.{Union}
use Rattle.plan.specs.Kept.MachineSets.{Mutual, Outside, is_ready_by, next_group}

-- `mutual`: the machines taken so far, with those to come

pub record Meets (reach : List ℕ) (i r rest : ℕ) : Type 0 where
  pub fits : rest < 2 ^ 64
  pub bits : (j : ℕ) → (bit r j || (bit rest j && bit (get_or reach j 0) i))
      ≡ (bit (get_or reach i 0) j && bit (get_or reach j 0) i)

module _ (reach : List ℕ) (i : ℕ) where
  pub meets-none : get_or reach i 0 < 2 ^ 64 → Meets reach i 0 (get_or reach i 0)
  meets-none h = record { fits = h; bits = λ j. rw bit-none }

  pub meets-next : {r rest k t u : ℕ} {wanted : Bool} → Meets reach i r rest → (rest ≡ 0 → ⊥) → k ≡ least rest
      → wanted ≡ bit (get_or reach k 0) i → ((j : ℕ) → bit t j ≡ (bit r j || (wanted && eqb k j)))
      → u ≡ less rest (alone k) → Meets reach i t u
  meets-next {r} {rest} {k} {t} {u} m z e w bits d =
      record {
        fits = taken-fits m.fits z e d;
        bits = λ j. same j ∙ m.bits j;
      }
    where
      same : (j : ℕ) → (bit t j || (bit u j && bit (get_or reach j 0) i))
          ≡ (bit r j || (bit rest j && bit (get_or reach j 0) i))
      same j =
          by_cases (eqb k j)
          (λ y.
          let q : k ≡ j = eqb-true k j y in
          let on : bit rest j ≡ true = rw (← q, e) (least-member m.fits z) in
          rw (bits j, d, bit-less, bit-alone, y, w, q, and-true, and-false, or-false, on))
          (λ n. rw (bits j, d, bit-less, bit-alone, n, and-false, or-false, and-true))

  pub meets-end : {r rest : ℕ} → Meets reach i r rest → rest ≡ 0 → Mutual reach i r
  meets-end {r} m z = record { bits = λ j. sym (or-false (bit r j)) ∙ rw (z, bit-none) at (m.bits j) }

-- `outside`: what the members of a group need, less the group

pub outside-less : (next : List ℕ) (group : ℕ) {far r : ℕ} → Union next group far → r ≡ less far group
    → Outside next group r
outside-less next group u e = record { bits = λ j. rw (e, bit-less, u.bits j) }

-- `next_group`: of the n machines only those of `rest` can be ready

pub record Unready (outside : List ℕ) (numbered n rest : ℕ) : Type 0 where
  pub fits : rest < 2 ^ 64
  pub left : (j : ℕ) → bit rest j ≡ true → (j < n) × (bit numbered j ≡ false)
  pub each : (j : ℕ) → j < n → bit rest j ≡ false → is_ready_by (get_or outside j 0) numbered j ≡ false

module _ {outside : List ℕ} {numbered n : ℕ} where
  pub unready-none : {all rest : ℕ} → all ≡ below n → rest ≡ less all numbered → rest < 2 ^ 64
      → Unready outside numbered n rest
  unfolding is_ready_by
  unready-none {all} {rest} ea er h =
      record {
        fits = h;
        left = λ j t.
            let u : bit (less all numbered) j ≡ true = rw (← er) t in
            (ltb-true j n (sym (bit-first n j) ∙ rw ea at (less-from all numbered j u)), less-not all numbered j u);
        each = λ j l f.
            let there : bit all j ≡ true = rw ea (bit-first n j ∙ lt-ltb j n l) in
            let given : bit numbered j ≡ true = true-of-not-false (λ v.
            true-false (less-intro all numbered j there v) (rw (← er) f)) in
            rw given;
      }

  module _ {rest i s : ℕ} (u : Unready outside numbered n rest) (some : rest ≡ 0 → ⊥) (e : i ≡ least rest)
      (es : s ≡ less (get_or outside i 0) numbered) where
    first-left : bit rest i ≡ true
    first-left = rw e (least-member u.fits some)

    pub unready-next : {t : ℕ} → (s ≡ 0 → ⊥) → t ≡ less rest (alone i) → Unready outside numbered n t
    unfolding is_ready_by
    unready-next {t} waits d =
        record {
          fits = taken-fits u.fits some e d;
          left = λ j y. u.left j (less-from rest (alone i) j (rw d at y));
          each = λ j l f.
              by_cases (eqb i j)
              (λ y.
              let q : i ≡ j = eqb-true i j y in
              rw (← q, ← es, ne_eqb s 0 waits, and-false))
              (λ no.
              u.each j l (false-of-not-true (λ y.
              true-false (less-intro rest (alone i) j y (bit-alone i j ∙ no)) (rw (← d) f))));
        }

    pub unready-found : (groups : List ℕ) → s ≡ 0 → get_or groups i 0 ≡ next_group groups outside numbered n
    unfolding next_group is_ready_by
    unready-found groups z =
        let (h, none) = u.left i first-left in
        let ready : is_ready_by (get_or outside i 0) numbered i ≡ true = rw (none, ← es, eq-eqb s 0 z) in
        rw (
          find-up_to-is (λ j. is_ready_by (get_or outside j 0) numbered j) n i h ready
              (λ j l. u.each j (omega arith) (least-before rest j (omega arith))),
          lt-ltb i n h,
        )

  pub unready-end : {rest : ℕ} (groups : List ℕ) → Unready outside numbered n rest → rest ≡ 0
      → 0 ≡ next_group groups outside numbered n
  unfolding next_group
  unready-end groups u z =
      let none : (j : ℕ) → j < n → is_ready_by (get_or outside j 0) numbered j ≡ false = λ j l.
      u.each j l (rw z (bit-none j)) in
      rw (find-up_to-none (λ j. is_ready_by (get_or outside j 0) numbered j) n none, le-ltb n n (omega arith))
