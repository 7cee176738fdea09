-- The numbering of a graph's groups when all rounds are over: every machine has a number, joined machines the same,
-- what a machine leads to no higher one, and each number is that of the smallest machine that was ready for it.
-- Assumes nothing.
use Prim.Native.Nat.{ℕ, zero, suc, ◌-◌, ◌≤◌, ◌<◌}
use mathlib.Core.Path.{◌≡◌, sym, ap, ◌∙◌}
use mathlib.Core.Logic.{⊎_elim}
use mathlib.Core.List.{Memᴰ}
use mathlib.Core.Bool.{Bool, true, not}
use native.Mathlib.Omega.{arith}
use borrow.Author.Tests.{ltb-true, ltb-false, eqb-true, eqb-false, not-true}
use lib.Dec.{ltb, eqb}
use lib.ListN.{length}
use Rattle.common.specs.Lists.{up_to, any, filter}
use Rattle.common.specs.Graph.{Graph, successors, distances}
use Rattle.common.proofs.Bools.{by_cases, not_of_false, not-of-true, or_left, or_right, or_cases}
use Rattle.common.proofs.Members.{up_to-mem, up_to-below, length-up_to}
use Rattle.common.proofs.Lists.{any_some}
use Rattle.common.proofs.Lists.{filter_none, length-filter, length-filter-mono, length-filter-less}
use Rattle.common.proofs.Lists.{length-filter-some}
use Rattle.plan.specs.Groups.{numbered_upto}
use Rattle.plan.proofs.Together.{joined, joined-self, joined-swap, joined-on}
use Rattle.plan.proofs.Together.{given, ready-open, ready-needed, needed-ready, some-ready}
use Rattle.plan.proofs.Rounds.{number_at, first_at, number-new, number-cases, first-ready, ready-first}
use Rattle.plan.proofs.Rounds.{given_below, open_above, below-given, above_open}
use Rattle.plan.proofs.Rounds.{number-joined, number-below, number-kept, number-stays, number-since}

module _ (g : Graph) (closed : (a j : ℕ) → Memᴰ j (successors g a) → j < length g) where
  -- Each round leaves fewer machines without a number, until there are none

  abbrev pub open_at : ℕ → ℕ → Bool
  open_at k i = not (given g (numbered_upto g (distances g) k) i)

  abbrev pub opens : ℕ → ℕ
  opens k = length (filter (open_at k) (up_to (length g)))

  pub first_below : (k i : ℕ) → i < length g → length g ≤ number_at g k i → first_at g k < length g
  first_below k i h o =
      let r = some-ready g _ closed i h (above_open g k i o) in
      omega (arith, ready-first g k r.0 r.1 r.2)

  pub first-number : (k : ℕ) → first_at g k < length g → number_at g (suc k) (first_at g k) ≡ k
  first-number k l = number-new g k (first_at g k) l l (joined-self g (first_at g k) l)

  pub open-before : (k i : ℕ) → i < length g → open_at (suc k) i ≡ true → open_at k i ≡ true
  open-before k i h t =
      by_cases (given g (numbered_upto g (distances g) k) i)
      (λ y.
      let l = given_below g k i y in
      let o = open_above g (suc k) i (not-true _ t) in
      absurd (let e : ⊥ = omega (arith, number-kept g k i h l) in e))
      (λ n. not_of_false n)

  pub opens-less : (k i : ℕ) → k < length g → i < length g → open_at k i ≡ true → opens (suc k) < opens k
  opens-less k i small h t =
      let l = first_below k i h (open_above g k i (not-true _ t)) in
      length-filter-less (open_at (suc k)) (open_at k)
      (λ j m. open-before k j (up_to-below (length g) m))
      (up_to-mem l)
      (not-of-true (below-given g (suc k) (first_at g k) (omega (arith, first-number k l))))
      (not_of_false (ready-open g _ (first_at g k) (first-ready g k l)))

  pub opens-no-more : (k : ℕ) → opens (suc k) ≤ opens k
  opens-no-more k =
      length-filter-mono (open_at (suc k)) (open_at k) (up_to (length g)) (λ j m. open-before k j (up_to-below (length g) m))

  pub opens-fall : (k : ℕ) → opens k ≤ length g - k
  opens-fall zero = omega (arith, length-filter (open_at 0) (up_to (length g)), length-up_to (length g))
  opens-fall (suc k) =
      let before = opens-fall k in
      by_cases (any (open_at k) (up_to (length g)))
      (λ t.
      let r = any_some (open_at k) (up_to (length g)) t in
      let some = length-filter-some (open_at k) r.1 r.2 in
      omega (arith, opens-less k r.0 (omega arith) (up_to-below (length g) r.1) r.2))
      (λ f. omega (arith, opens-no-more k, ap length (filter_none (open_at k) (up_to (length g)) f)))

  -- The last numbers

  abbrev pub number : ℕ → ℕ
  number i = number_at g (length g) i

  pub number-given : (i : ℕ) → i < length g → number i < length g
  number-given i h =
      by_cases (ltb (number i) (length g))
      (λ t. ltb-true _ _ t)
      (λ f.
      let o = not_of_false (above_open g (length g) i (ltb-false _ _ f)) in
      let some = length-filter-some (open_at (length g)) (up_to-mem h) o in
      omega (arith, opens-fall (length g)))

  -- before round k ends, a machine has its number if that is below k, and else none
  pub number-later : (k i : ℕ) → i < length g → k ≤ number i → number_at g k i ≡ length g
  number-later k i h l =
      ⊎_elim
      (λ b.
      let small = number-given i h in
      absurd (let e : ⊥ = omega (arith, number-stays g k (length g) i (omega arith) h (omega arith)) in e))
      (λ e. e)
      (number-below g k i h)

  pub number-earlier : (k i : ℕ) → i < length g → k ≤ length g → number i < k → number_at g k i ≡ number i
  number-earlier k i h small l =
      ⊎_elim
      (λ b. sym (number-stays g k (length g) i small h (omega arith)))
      (λ e. absurd (let f : ⊥ = omega (arith, number-since g k (length g) i small small h e) in f))
      (number-below g k i h)

  -- a machine has the number of the round that found its group
  pub number-found : (i : ℕ) → i < length g
      → (first_at g (number i) < length g) × (joined g (first_at g (number i)) i ≡ true)
  number-found i h =
      let small = number-given i h in
      ⊎_elim
      (λ new. new)
      (λ same.
      let e = number-later (number i) i h (omega arith) in
      absurd (let f : ⊥ = omega (arith, number-earlier (suc (number i)) i h (omega arith) (omega arith)) in f))
      (number-cases g (number i) i h)

  pub number-of-first : (k : ℕ) → k < length g → first_at g k < length g → number (first_at g k) ≡ k
  number-of-first k small l =
      let e = first-number k l in
      number-stays g (suc k) (length g) (first_at g k) (omega arith) l (omega arith) ∙ e

  -- machines of one number are joined
  pub same-joined : (i j : ℕ) → i < length g → j < length g → number i ≡ number j → joined g i j ≡ true
  same-joined i j hi hj e =
      let a = (number-found i hi).1 in
      let b : joined g (first_at g (number i)) j ≡ true = rw e (number-found j hj).1 in
      joined-on g i (first_at g (number i)) j (joined-swap g (first_at g (number i)) i a) b

  -- what a machine leads to has no higher number
  pub number-first : (i : ℕ) {j : ℕ} → Memᴰ j (successors g i) → i < length g → number j ≤ number i
  number-first i {j} l hi =
      let k = number i in
      let hj = closed i j l in
      let (small, same) = number-found i hi in
      ⊎_elim
      (λ t. omega (
        arith,
        number-joined g (length g) (first_at g k) j t,
        number-joined g (length g) (first_at g k) i same,
      ))
      (λ t.
      let b = given_below g k j t in
      let kn = number-given i hi in
      let stays = number-stays g k (length g) j (omega arith) hj b in
      ⊎_elim (λ s. omega arith) (λ e. omega arith) (number-below g k j hj))
      (or_cases (joined g (first_at g k) j) _ (ready-needed g _ (first_at g k) (first-ready g k small) i j same l))

  -- no number below a number is left out
  pub number-used : (k i : ℕ) → i < length g → k ≤ number i → (first_at g k < length g) × (number (first_at g k) ≡ k)
  number-used k i h l =
      let kn = number-given i h in
      let small = first_below k i h (omega (arith, number-later k i h l)) in
      (small, number-of-first k (omega arith) small)

  -- what machines of the group of i lead to outside the group has a number below k
  abbrev pub NeedsBelow : ℕ → ℕ → Type 0
  NeedsBelow k i =
      (a j : ℕ) → number a ≡ number i → Memᴰ j (successors g a) → (number j ≡ number i → ⊥) → number j < k

  -- then number k, if not given before, goes to a group with a machine up to i
  pub number-smallest : (k i : ℕ) → i < length g → k ≤ number i → NeedsBelow k i → first_at g k ≤ i
  number-smallest k i h l below =
      let kn = number-given i h in
      ready-first g k i h
      (needed-ready g _ i (above_open g k i (omega (arith, number-later k i h l)))
      (λ a j t m.
      let hj = closed a j m in
      by_cases (eqb (number j) (number i))
      (λ s. or_left _ (same-joined i j h hj (sym (eqb-true _ _ s))))
      (λ d.
      let lower = below a j (sym (number-joined g (length g) i a t)) m (eqb-false _ _ d) in
      or_right (joined g i j) (below-given g k j (omega (arith, number-earlier k j hj (omega arith) lower))))))
