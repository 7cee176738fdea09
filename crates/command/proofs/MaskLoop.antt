-- The loop over the machines that gathers the groups of which some machine fails a test: those that are not live, by the
-- live modes and the tags, and those that a goal leaves unmet, by what it allows.
-- Assumes nothing.
use Prim.Native.Nat.{ℕ, ◌+◌, ◌≤◌, ◌<◌}
use mathlib.Core.Path.{◌≡◌, refl, sym, ap, ap₂, ◌∙◌}
use mathlib.Core.List.{List, [], ◌∷◌}
use mathlib.Core.Bool.{Bool, true, false, not, ◌&&◌, ◌||◌, and_comm}
use native.Mathlib.Numerals.{add-one}
use native.Mathlib.Omega.{arith}
use lib.Dec.{eqb}
use lib.ListN.{length, get_or}
use Rattle.common.specs.Bits.{bit}
use Rattle.common.specs.Lists.{up_to, all, any, pad}
use Rattle.common.proofs.Lists.{all-filtered, any-cong}
use Rattle.common.proofs.Members.{up_to-below}
use Rattle.common.proofs.Pad.{get_or-pad}
use Rattle.common.proofs.Snoc.{any_snoc}
use Rattle.sets.proofs.Laws.{bit-none}
use Rattle.sheet.specs.Model.{Model, is_live_mode}
use Rattle.plan.specs.Groups.{group_of, members}
use Rattle.plan.specs.Reading.{groups_in}
use Rattle.command.specs.State.{mode_of, tag_of, untagged}
use Rattle.command.specs.Goal.{Masks, allows, met}
use Rattle.command.specs.Attainable.{live_group}
use Rattle.command.specs.Kept.Question.{Allows, Placed, FailedSet, UnmetSet}
use Rattle.command.proofs.Placing.{placed-mode, placed-numbers, placed-group, placed-groups}

-- not each: some not
not-or : (a b : Bool) → not (not a || b) ≡ (a && not b)
not-or true b = refl
not-or false b = refl

not-and : (a b : Bool) → not (a && b) ≡ (not a || not b)
not-and true b = refl
not-and false b = refl

not-all : {A : Type 0} (p q : A → Bool) (xs : List A) → not (all (λ x. not (q x) || p x) xs) ≡ any (λ x. q x && not (p x)) xs
unfolding all any
not-all p q [] = refl
not-all p q (x ∷ xs) = not-and (not (q x) || p x) _ ∙ ap₂ ◌||◌ (not-or (q x) (p x)) (not-all p q xs)

-- the mode of machine j is in its mask; and it has no tag
abbrev pub held : List ℕ → List ℕ → ℕ → Bool
held state masks j = bit (get_or masks j 0) (mode_of state j)

abbrev pub held_free : List ℕ → List ℕ → ℕ → Bool
held_free state masks j = held state masks j && untagged state j

module _ (numbers : List ℕ) (fine : ℕ → Bool) where
  -- machine j is of group k and fails
  abbrev lacks : ℕ → ℕ → Bool
  lacks k j = eqb (group_of numbers j) k && not (fine j)

  pub record LackingUpto (i r : ℕ) : Type 0 where
    pub inside : i ≤ length numbers
    pub bits : (k : ℕ) → bit r k ≡ any (lacks k) (up_to i)

  pub lacking-none : LackingUpto 0 0
  unfolding up_to any
  lacking-none = record { inside = omega arith; bits = bit-none }

  pub lacking-next : {i r g k t : ℕ} → LackingUpto i r → i < length numbers → g ≡ group_of numbers i → k ≡ g
      → ((j : ℕ) → bit t j ≡ (bit r j || (not (fine i) && eqb k j))) → LackingUpto (i + 1) t
  unfolding up_to
  lacking-next {i} {k = k} u l e f q =
      record {
        inside = omega arith;
        bits = λ a. q a ∙ ap₂ ◌||◌ (u.bits a) (one a) ∙ rw add-one (sym (any_snoc (lacks a) (up_to i) i));
      }
    where
      one : (a : ℕ) → (not (fine i) && eqb k a) ≡ lacks a i
      one a = rw (f, e) (and_comm (not (fine i)) _)

  -- at the end, by another test that says the same of each machine
  lacking-end : {i r : ℕ} → LackingUpto i r → length numbers ≤ i → {m : Model} {plan state : List ℕ}
      → Placed m plan state numbers → (same : ℕ → Bool) → ((j : ℕ) → j < length numbers → fine j ≡ same j) → (k : ℕ)
      → bit r k ≡ not (all same (members (groups_in m plan) k))
  unfolding members
  lacking-end {i} u l {m} {plan} p same equal k =
      let e : i ≡ length (groups_in m plan) = omega (arith, u.inside, placed-numbers p, placed-groups p) in
      let own : ℕ → Bool = λ j. eqb (group_of (groups_in m plan) j) k in
      u.bits k
      ∙ any-cong (lacks k) (λ j. own j && not (same j)) (up_to i)
      (λ j b. ap₂ (λ x y. eqb x k && not y) (placed-group p j) (equal j (omega (arith, up_to-below i b, u.inside))))
      ∙ rw e (sym (ap not (all-filtered same own _) ∙ not-all same own (up_to (length (groups_in m plan)))))

-- one test after the other
two-tests : (r a b e : Bool) → ((r || (not a && e)) || (not b && e)) ≡ (r || (not (a && b) && e))
two-tests true a b e = refl
two-tests false true b e = refl
two-tests false false b true = refl
two-tests false false true false = refl
two-tests false false false false = refl

module _ (state masks numbers : List ℕ) where
  -- the groups that a goal leaves unmet
  pub record UnmetUpto (i r : ℕ) : Type 0 where
    pub upto : LackingUpto numbers (held state masks) i r

  pub unmet-none : UnmetUpto 0 0
  unmet-none = record { upto = lacking-none numbers _ }

  pub unmet-next : {i r g k mode t : ℕ} {has : Bool} → UnmetUpto i r → i < length numbers → g ≡ group_of numbers i → k ≡ g
      → mode ≡ mode_of state i → has ≡ bit (get_or masks i 0) mode
      → ((j : ℕ) → bit t j ≡ (bit r j || (not has && eqb k j))) → UnmetUpto (i + 1) t
  unmet-next u l e f d h q = record { upto = lacking-next numbers _ u.upto l e f (rw (← d, ← h) q) }

  pub unmet-end : {i r : ℕ} → UnmetUpto i r → length numbers ≤ i → (m : Model) (plan : List ℕ) (goal : Masks)
      → Placed m plan state numbers → Allows m goal masks → UnmetSet m plan state goal r
  unfolding met
  unmet-end u l m plan goal p a =
      record {
        bits = λ k h.
            lacking-end numbers _ u.upto l p (λ j. allows goal j (mode_of state j))
            (λ j b. a.each j _ (omega (arith, placed-numbers p)) (placed-mode p j (omega (arith, placed-numbers p))))
            k;
      }

  -- and those that are not live
  pub record FailedUpto (i r : ℕ) : Type 0 where
    pub upto : LackingUpto numbers (held_free state masks) i r

  pub failed-none : FailedUpto 0 0
  failed-none = record { upto = lacking-none numbers _ }

  pub failed-next : {i r g k mode tag t : ℕ} {has : Bool} (s : ℕ) → FailedUpto i r → i < length numbers
      → g ≡ group_of numbers i → k ≡ g → mode ≡ mode_of state i → has ≡ bit (get_or masks i 0) mode
      → ((j : ℕ) → bit s j ≡ (bit r j || (not has && eqb k j)))
      → tag ≡ tag_of state i → ((j : ℕ) → bit t j ≡ (bit s j || (not (eqb tag 0) && eqb k j)))
      → FailedUpto (i + 1) t
  failed-next {i} {r = r} {k = k} {tag = tag} {has = has} s u l e f d h q c p =
      let fine : has && eqb tag 0 ≡ held_free state masks i = rw (h, d, c) refl in
      record {
        upto = lacking-next numbers _ u.upto l e f (λ j.
            p j ∙ ap (λ x. x || (not (eqb tag 0) && eqb k j)) (q j)
            ∙ two-tests (bit r j) has (eqb tag 0) (eqb k j)
            ∙ ap (λ x. bit r j || (not x && eqb k j)) fine);
      }

  pub failed-end : {i r : ℕ} → FailedUpto i r → length numbers ≤ i → (m : Model) (plan : List ℕ)
      → Placed m plan state numbers → masks ≡ pad 32 m.live → FailedSet m plan state r
  unfolding live_group
  failed-end u l m plan p s =
      record {
        bits = λ k h.
            lacking-end numbers _ u.upto l p (λ j. is_live_mode m j (mode_of state j) && untagged state j)
            (λ j b. rw (s, get_or-pad)) k;
      }
