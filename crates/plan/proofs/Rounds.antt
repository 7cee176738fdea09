-- The numbering of a graph's groups, round by round: who has which number when.
-- Assumes nothing.
use Prim.Native.Nat.{ℕ, zero, suc, ◌≤◌, ◌<◌}
use mathlib.Core.Path.{◌≡◌, sym, ap, ◌∙◌}
use mathlib.Core.Logic.{◌⊎◌, inl, inr, ⊎_elim}
use mathlib.Core.Bool.{Bool, true, false, cond, ◌&&◌}
use native.Mathlib.Nat.{eq-or-lt_of_le}
use native.Mathlib.Omega.{arith}
use borrow.Author.Tests.{ltb-true, ltb-false, lt-ltb, le-ltb}
use lib.Dec.{ltb}
use lib.ListN.{length, length-replicate, get_or-replicate}
use Rattle.common.specs.Lists.{up_to, any, find}
use Rattle.common.specs.Graph.{Graph, distances}
use Rattle.common.proofs.Bools.{by_cases, cond-true, cond-false}
use Rattle.common.proofs.Bools.{and_intro, and_left, and_right}
use Rattle.common.proofs.Members.{length-map-up_to, get_or-map-up_to}
use Rattle.common.proofs.Search.{find-holds, find_none}
use Rattle.common.proofs.Search.{find-up_to-least}
use Rattle.plan.specs.Groups.{group_of, numbered, with_number, numbered_upto}
use Rattle.plan.proofs.Together.{connected-nodes, joined, joined-there, joined_same}
use Rattle.plan.proofs.Together.{given, is_ready, ready-open}

-- the number of machine i when the numbers below k are given
abbrev pub number_at : Graph → ℕ → ℕ → ℕ
number_at g k i = group_of (numbered_upto g (distances g) k) i

module _ (g : Graph) where
  abbrev pub ready_at : ℕ → ℕ → Bool
  ready_at k = is_ready g (numbered_upto g (distances g) k)

  -- the machine whose group gets number k, or the machine count
  abbrev pub first_at : ℕ → ℕ
  first_at k = find (ready_at k) (up_to (length g)) (length g)

  -- One round

  pub length-round : (k : ℕ) → length (numbered_upto g (distances g) k) ≡ length g
  unfolding numbered_upto with_number
  length-round zero = length-replicate (length g) (length g)
  length-round (suc k) = length-map-up_to _ (length g)

  pub number-start : (i : ℕ) → i < length g → number_at g 0 i ≡ length g
  unfolding numbered_upto
  number-start i h = get_or-replicate (length g) i (length g) 0 h

  pub number-next : (k i : ℕ) → i < length g
      → number_at g (suc k) i ≡ cond (ltb (first_at k) (length g) && joined g (first_at k) i) k (number_at g k i)
  unfolding numbered_upto with_number
  number-next k i h = get_or-map-up_to _ 0 h

  -- a number is given in a round, or kept
  pub number-new : (k i : ℕ) → i < length g → first_at k < length g → joined g (first_at k) i ≡ true
      → number_at g (suc k) i ≡ k
  number-new k i h l t = number-next k i h ∙ cond-true _ _ (and_intro (lt-ltb _ _ l) t)

  pub number-cases : (k i : ℕ) → i < length g
      → ((first_at k < length g) × (joined g (first_at k) i ≡ true)) ⊎ (number_at g (suc k) i ≡ number_at g k i)
  number-cases k i h =
      by_cases (ltb (first_at k) (length g) && joined g (first_at k) i)
      (λ t. inl (ltb-true _ _ (and_left _ _ t), and_right (ltb (first_at k) (length g)) _ t))
      (λ f. inr (number-next k i h ∙ cond-false _ _ f))

  pub first-ready : (k : ℕ) → first_at k < length g → ready_at k (first_at k) ≡ true
  first-ready k l =
      by_cases (any (ready_at k) (up_to (length g)))
      (λ t. find-holds (ready_at k) (up_to (length g)) (length g) t)
      (λ f. absurd (let e : ⊥ = omega (arith, find_none (ready_at k) (up_to (length g)) (length g) f) in e))

  pub ready-first : (k i : ℕ) → i < length g → ready_at k i ≡ true → first_at k ≤ i
  ready-first k i = find-up_to-least (ready_at k) (length g) i

  -- whether a machine has a number
  pub given_below : (k i : ℕ) → given g (numbered_upto g (distances g) k) i ≡ true → number_at g k i < length g
  unfolding numbered
  given_below k i t = ltb-true _ _ t

  pub open_above : (k i : ℕ) → given g (numbered_upto g (distances g) k) i ≡ false → length g ≤ number_at g k i
  unfolding numbered
  open_above k i f = ltb-false _ _ f

  pub below-given : (k i : ℕ) → number_at g k i < length g → given g (numbered_upto g (distances g) k) i ≡ true
  unfolding numbered
  below-given k i l = lt-ltb _ _ l

  pub above_open : (k i : ℕ) → length g ≤ number_at g k i → given g (numbered_upto g (distances g) k) i ≡ false
  unfolding numbered
  above_open k i l = le-ltb _ _ l

  -- All rounds

  -- joined machines have the same number
  pub number-joined : (k i j : ℕ) → joined g i j ≡ true → number_at g k i ≡ number_at g k j
  number-joined k i j t =
      let (hi, hj) = connected-nodes g i j (joined-there g i j t) in
      go k hi hj
    where
      go : (k : ℕ) → i < length g → j < length g → number_at g k i ≡ number_at g k j
      go zero hi hj = number-start i hi ∙ sym (number-start j hj)
      go (suc k) hi hj =
          number-next k i hi
          ∙ rw (joined_same g (first_at k) i j t, go k hi hj) (sym (number-next k j hj))

  pub number-below : (k i : ℕ) → i < length g → (number_at g k i < k) ⊎ (number_at g k i ≡ length g)
  number-below zero i h = inr (number-start i h)
  number-below (suc k) i h =
      ⊎_elim
      (λ new. inl (omega (arith, number-new k i h new.0 new.1)))
      (λ same. ⊎_elim (λ l. inl (omega arith)) (λ e. inr (same ∙ e)) (number-below k i h))
      (number-cases k i h)

  -- a number once given stays
  pub number-kept : (k i : ℕ) → i < length g → number_at g k i < length g → number_at g (suc k) i ≡ number_at g k i
  number-kept k i h l =
      ⊎_elim
      (λ new.
      let o = open_above k (first_at k) (ready-open g _ (first_at k) (first-ready k new.0)) in
      absurd (let e : ⊥ = omega (arith, number-joined k (first_at k) i new.1) in e))
      (λ same. same)
      (number-cases k i h)

  pub number-stays : (k l i : ℕ) → k ≤ l → i < length g → number_at g k i < length g → number_at g l i ≡ number_at g k i
  number-stays k zero i le h b = let e : 0 ≡ k = omega arith in ap (λ x. number_at g x i) e
  number-stays k (suc l) i le h b =
      ⊎_elim
      (λ e. ap (λ x. number_at g x i) (sym e))
      (λ s.
      let same = number-stays k l i (omega arith) h b in
      number-kept l i h (omega arith) ∙ same)
      (eq-or-lt_of_le le)

  -- a number given after round k is k at least
  pub number-since : (k l i : ℕ) → k ≤ l → k ≤ length g → i < length g → number_at g k i ≡ length g → k ≤ number_at g l i
  number-since k zero i le small h e = omega arith
  number-since k (suc l) i le small h e =
      ⊎_elim
      (λ same. rw (← same) (rw e small))
      (λ s.
      let before = number-since k l i (omega arith) small h e in
      ⊎_elim
      (λ new. omega (arith, number-new l i h new.0 new.1))
      (λ same. omega arith)
      (number-cases l i h))
      (eq-or-lt_of_le le)
