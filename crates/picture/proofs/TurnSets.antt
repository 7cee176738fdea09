-- Ready for a number, by sets of machines: those of the groups from the number on, without those of groups that wait.
-- Assumes nothing.
use Prim.Native.Nat.{ℕ, ◌^◌, ◌<◌}
use mathlib.Core.Path.{◌≡◌, refl, sym, ap, ◌∙◌}
use mathlib.Core.List.{List}
use mathlib.Core.Bool.{Bool, true, false, not, ◌&&◌, ◌||◌}
use native.Mathlib.Omega.{arith}
use borrow.Author.Tests.{eqb-true, eq-eqb, ltb-true, lt-ltb, le-ltb}
use lib.Dec.{eqb, ltb, leb}
use lib.ListN.{length, get_or}
use Rattle.common.specs.Bits.{bit}
use Rattle.common.proofs.Bools.{by_cases, bool-ext, true-false, and_intro, and_left, and_right}
use Rattle.common.proofs.Lists.{any-intro, any_some}
use Rattle.common.proofs.Search.{find-up_to-is, find-up_to-none}
use Rattle.sets.specs.Kept.Sets.{union, less, least, elements}
use Rattle.sets.proofs.Laws.{bit-none, bit-union, bit-less}
use Rattle.sets.proofs.Members.{least-before, least-member, bit-element, element-bit}
use Rattle.search.specs.Kept.Search.{Union}
use Rattle.plan.specs.Groups.{group_of}
use Rattle.plan.specs.Kept.Partition.{MemberSets}
use Rattle.picture.specs.Kept.Turns.{ready_in, first_ready, turn_of}

-- the machines whose group is so
pub record MachinesIn (numbers : List ℕ) (q : ℕ → Bool) (s : ℕ) : Type 0 where
  pub bits : (i : ℕ) → bit s i ≡ (ltb i (length numbers) && q (group_of numbers i))

module _ (numbers : List ℕ) where
  pub no-machines : {q : ℕ → Bool} → ((i : ℕ) → i < length numbers → q (group_of numbers i) ≡ false)
      → MachinesIn numbers q 0
  no-machines {q} none =
      record {
        bits = λ i.
            bit-none i
            ∙ by_cases (ltb i (length numbers))
            (λ t. sym (rw (t, none i (ltb-true i (length numbers) t)) refl))
            (λ f. sym (rw f refl));
      }

  -- one set with another
  pub machines-joined : {p q r : ℕ → Bool} {s t u : ℕ} → MachinesIn numbers p s → MachinesIn numbers q t
      → ((g : ℕ) → (p g || q g) ≡ r g) → u ≡ union s t → MachinesIn numbers r u
  machines-joined {p} {q} {r} {s} {t} a b same e =
      record {
        bits = λ i.
            let g = group_of numbers i in
            ap (λ x. bit x i) e ∙ bit-union s t i ∙ rw (a.bits i, b.bits i)
            (by_cases (ltb i (length numbers)) (λ h. rw h (same g)) (λ f. rw f refl));
      }

  -- and without another
  pub machines-without : {p q : ℕ → Bool} {s t u : ℕ} → MachinesIn numbers p s → MachinesIn numbers q t
      → u ≡ less s t → MachinesIn numbers (λ g. p g && not (q g)) u
  machines-without {p} {q} {s} {t} a b e =
      record {
        bits = λ i.
            let g = group_of numbers i in
            ap (λ x. bit x i) e ∙ bit-less s t i ∙ rw (a.bits i, b.bits i)
            (by_cases (ltb i (length numbers)) (λ h. rw h refl) (λ f. rw f refl));
      }

  module _ {members : List ℕ} (m : MemberSets numbers members) (small : (i : ℕ) → i < length numbers → group_of numbers i < 32)
    where
      pub members-are : (k : ℕ) → k < 32 → MachinesIn numbers (λ g. eqb g k) (get_or members k 0)
      members-are k l = record { bits = λ i. m.bits k i l }

      -- the machines of the groups of a set
      pub union-is : {groups s : ℕ} → ((g : ℕ) → bit groups g ≡ true → g < 32) → Union members groups s
          → MachinesIn numbers (bit groups) s
      union-is {groups} few u =
          record {
            bits = λ i.
                let g = group_of numbers i in
                u.bits i
                ∙ bool-ext
                (λ t.
                let (a, a_in, on) = any_some (λ a. bit (get_or members a 0) i) (elements groups) t in
                let there = element-bit groups a_in in
                let both = sym (m.bits a i (few a there)) ∙ on in
                let same : g ≡ a = eqb-true g a (and_right (ltb i (length numbers)) _ both) in
                and_intro (and_left (ltb i (length numbers)) _ both) (rw same there))
                (λ t.
                let l = ltb-true i (length numbers) (and_left (ltb i (length numbers)) _ t) in
                let low : g < 32 = small i l in
                any-intro (λ a. bit (get_or members a 0) i)
                (bit-element groups (omega arith) (and_right (ltb i (length numbers)) _ t))
                (m.bits g i low ∙ and_intro (lt-ltb i (length numbers) l) (eq-eqb g g refl)));
          }

  -- the first of the machines that are ready
  pub turn-by-set : (waiting k : ℕ) {ready : ℕ} → ready < 2 ^ 64
      → MachinesIn numbers (λ g. leb k g && not (bit waiting g)) ready
      → (not (eqb ready 0) && eqb (get_or numbers (least ready) 0) k) ≡ turn_of numbers waiting k
  unfolding turn_of ready_in
  turn-by-set waiting k {ready} fits m =
      let n = length numbers in
      by_cases (eqb ready 0)
      (λ z.
      let none : (j : ℕ) → j < n → ready_in numbers waiting k j ≡ false = λ j l.
      sym (rw (eqb-true ready 0 z, bit-none, lt-ltb j n l) at (m.bits j)) in
      rw (z, find-up_to-none (ready_in numbers waiting k) n none, le-ltb n n (omega arith)) refl)
      (λ z.
      let some : ready ≡ 0 → ⊥ = λ e. true-false (eq-eqb ready 0 e) z in
      let i = least ready in
      let both = sym (m.bits i) ∙ least-member fits some in
      let inside = ltb-true i n (and_left (ltb i n) _ both) in
      let first : first_ready numbers waiting k ≡ i =
      find-up_to-is (ready_in numbers waiting k) n i inside (and_right (ltb i n) _ both)
      (λ j l. sym (rw (least-before ready j l, lt-ltb j n (omega arith)) at (m.bits j))) in
      rw (z, first, lt-ltb i n inside) refl)
