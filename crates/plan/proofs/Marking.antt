-- The loop of `number`: after k rounds a machine is marked if it has a number below k, and its byte is that number.
-- Assumes nothing.
use Prim.Native.Nat.{ℕ, suc, ◌+◌, ◌≤◌, ◌<◌}
use mathlib.Core.Path.{◌≡◌, sym, ap, ◌∙◌}
use mathlib.Core.List.{List}
use mathlib.Core.Bool.{true, cond, or-true, or-false}
use native.Mathlib.Numerals.{add-one}
use native.Mathlib.Omega.{arith}
use borrow.Author.Tests.{ltb-true, ltb-false, lt-ltb}
use lib.Dec.{ltb}
use lib.ListN.{length, get_or, take, length-take}
use lib.Seq.{get_or-take, ext_get_or}
use Rattle.common.specs.Bits.{bit}
use Rattle.common.specs.Graph.{Graph, distances}
use Rattle.common.proofs.Bools.{by_cases, true-false, cond-true, cond-false}
use Rattle.sets.specs.Kept.Sets.{union}
use Rattle.sets.proofs.Laws.{bit-none, bit-union}
use Rattle.search.specs.Kept.Search.{Marked}
use Rattle.plan.specs.Groups.{numbered, numbered_upto}
use Rattle.plan.specs.Kept.MachineSets.{next_group, Grouped}
use Rattle.plan.proofs.Together.{joined, joined-self, given}
use Rattle.plan.proofs.Rounds.{number_at, first_at, length-round, number-start, number-next, number-stays}
use Rattle.plan.proofs.Rounds.{given_below, open_above, below-given, above_open}
use Rattle.plan.proofs.Numbering.{first_below, number-given}
use Rattle.plan.proofs.GroupSets.{next-first}

pub record Marks (g : Graph) (k : ℕ) (numbers : List ℕ) (marks : ℕ) : Type 0 where
  pub bits : (j : ℕ) → j < length g → bit marks j ≡ given g (numbered_upto g (distances g) k) j
  pub bytes : (j : ℕ) → j < length g → bit marks j ≡ true → get_or numbers j 0 ≡ number_at g k j

pub marks-none : (g : Graph) (numbers : List ℕ) → Marks g 0 numbers 0
marks-none g numbers =
    record {
      bits = λ j h. bit-none j ∙ sym (above_open g 0 j (omega (arith, number-start g j h)));
      bytes = λ j h t. absurd (true-false t (bit-none j));
    }

module _ {g : Graph} {n : ℕ} {groups outside : List ℕ} (sets : Grouped g n groups outside) where
  -- numbers of all machines make the grouping
  numbers-whole : (numbers : List ℕ) → length numbers ≡ 64 → n ≤ 64
      → ((j : ℕ) → j < length g → get_or numbers j 0 ≡ number_at g (length g) j)
      → take n numbers ≡ numbered_upto g (distances g) n
  numbers-whole numbers long small each =
      rw (← sets.size)
      (ext_get_or 0 _ _
      (length-take (length g) numbers ∙ omega (arith, length-round g (length g), sets.size))
      (λ j h.
      let l : j < length g = omega (arith, length-take (length g) numbers) in
      get_or-take (length g) numbers j 0 l ∙ each j l))

  module _ {k marks : ℕ} {numbers : List ℕ} (m : Marks g k numbers marks) where
    -- after the last round
    pub marks-end : k ≤ n → n ≤ k → length numbers ≡ 64 → n ≤ 64 → take n numbers ≡ numbered_upto g (distances g) n
    marks-end below above long small =
        let e : k ≡ length g = omega (arith, sets.size) in
        numbers-whole numbers long small (λ j l.
        let b = below-given g k j (rw e (number-given g sets.holds.inside j l)) in
        m.bytes j l (m.bits j l ∙ b) ∙ rw e)

    module _ {group : ℕ} (e : group ≡ next_group groups outside marks n) where
      group-first : group ≡ cond (ltb (first_at g k) (length g)) (get_or groups (first_at g k) 0) 0
      group-first = e ∙ next-first sets (numbered_upto g (distances g) k) marks m.bits

      group-bit : first_at g k < length g → (j : ℕ) → bit group j ≡ joined g (first_at g k) j
      group-bit l j =
          ap (λ s. bit s j) (group-first ∙ cond-true _ _ (lt-ltb _ _ l))
          ∙ sets.group (first_at g k) (omega (arith, sets.size)) j

      -- a round that numbers a group

      first_some : (group ≡ 0 → ⊥) → first_at g k < length g
      first_some some =
          by_cases (ltb (first_at g k) (length g))
          (λ t. ltb-true _ _ t)
          (λ f. absurd (some (group-first ∙ cond-false _ _ f)))

      number-marked : first_at g k < length g → (j : ℕ) → j < length g
          → number_at g (suc k) j ≡ cond (bit group j) k (number_at g k j)
      number-marked l j h = number-next g k j h ∙ rw (lt-ltb (first_at g k) (length g) l, group-bit l j)

      pub marks-next : {new : ℕ} {after : List ℕ} → (group ≡ 0 → ⊥) → k < n → Marked numbers group k after
          → new ≡ union marks group → Marks g (k + 1) after new
      unfolding numbered
      marks-next some h w u =
          let l = first_some some in
          record {
            bits = λ j hj.
                rw (u, bit-union, add-one, number-marked l j hj)
                (by_cases (bit group j)
                (λ t. rw t (or-true (bit marks j) ∙ sym (lt-ltb k (length g) (omega (arith, sets.size)))))
                (λ f. rw f (or-false (bit marks j) ∙ m.bits j hj)));
            bytes = λ j hj t.
                w.bytes j (omega (arith, sets.holds.small)) ∙ rw (add-one, number-marked l j hj)
                (by_cases (bit group j)
                (λ y. rw y)
                (λ f. rw f (m.bytes j hj (rw (u, bit-union, f, or-false) at t))));
          }

      -- a round that finds none: all machines have their numbers

      first-none : group ≡ 0 → length g ≤ first_at g k
      first-none z =
          by_cases (ltb (first_at g k) (length g))
          (λ t.
          let l = ltb-true _ _ t in
          let in_group = group-bit l (first_at g k) ∙ joined-self g (first_at g k) l in
          absurd (true-false in_group (rw z (bit-none (first_at g k)))))
          (λ f. ltb-false _ _ f)

      pub marks-stop : group ≡ 0 → k ≤ n → length numbers ≡ 64 → n ≤ 64
          → take n numbers ≡ numbered_upto g (distances g) n
      marks-stop z below long small =
          numbers-whole numbers long small (λ j l. by_cases (bit marks j)
          (λ t.
          let b = given_below g k j (sym (m.bits j l) ∙ t) in
          m.bytes j l t ∙ sym (number-stays g k (length g) j (omega (arith, sets.size)) l b))
          (λ f.
          let b = first_below g sets.holds.inside k j l (open_above g k j (sym (m.bits j l) ∙ f)) in
          absurd (let c : ⊥ = omega (arith, first-none z) in c)))
