-- The nodes of a graph that lead to one another: an equivalence.
-- Where a node has no number yet, some node's group is ready for one.
-- Assumes nothing.
use Prim.Native.Nat.{ℕ, zero, suc, ◌<◌}
use mathlib.Core.Path.{◌≡◌}
use mathlib.Core.Logic.{⊎_elim}
use mathlib.Core.List.{Memᴰ}
use mathlib.Core.Bool.{Bool, true, false, not, ◌||◌}
use native.Mathlib.Omega.{arith}
use borrow.Author.Tests.{not-false, not-true}
use lib.ListN.{length}
use Rattle.common.specs.Lists.{up_to, filter}
use Rattle.common.specs.Graph.{Graph, successors, here, step, distances, connected}
use Rattle.common.proofs.Bools.{by_cases, true-false, false-of-not-true, bool-ext, not_of_false}
use Rattle.common.proofs.Bools.{and_intro, and_left, and_right, and-false-cases}
use Rattle.common.proofs.Bools.{or_left, or_right, or_cases, or-false-left, or-false-right}
use Rattle.common.proofs.Members.{up_to-mem}
use Rattle.common.proofs.Lists.{all-at, all-intro, all-fails, length-filter-less}
use Rattle.common.proofs.Graph.{chain-append, distance-below, between-nodes, connected-chain, chain-connected}
use Rattle.plan.specs.Groups.{Grouping, together, numbered, ready}

module _ (g : Graph) where
  -- Connected nodes

  pub connected-nodes : (i j : ℕ) → connected (distances g) i j ≡ true → (i < length g) × (j < length g)
  connected-nodes i j t = between-nodes g i j (omega (arith, distance-below g i j t))

  pub connected-self : (i : ℕ) → i < length g → connected (distances g) i i ≡ true
  connected-self i h = chain-connected g i i h here

  pub connected-on : (i j k : ℕ) → connected (distances g) i j ≡ true → connected (distances g) j k ≡ true
      → connected (distances g) i k ≡ true
  connected-on i j k t u =
      chain-connected g i k (connected-nodes j k u).1
      (chain-append (connected-chain g i j t).1 (connected-chain g j k u).1)

  pub connected-step : (i : ℕ) {j : ℕ} → Memᴰ j (successors g i) → j < length g → connected (distances g) i j ≡ true
  connected-step i {j} l h = chain-connected g i j h (step j l here)

  -- Nodes that lead to one another

  abbrev pub joined : ℕ → ℕ → Bool
  joined = together g (distances g)

  pub joined-there : (i j : ℕ) → joined i j ≡ true → connected (distances g) i j ≡ true
  unfolding together
  joined-there i j t = and_left _ _ t

  pub joined_back : (i j : ℕ) → joined i j ≡ true → connected (distances g) j i ≡ true
  unfolding together
  joined_back i j t = and_right (connected (distances g) i j) _ t

  pub there_back : (i j : ℕ) → connected (distances g) i j ≡ true → connected (distances g) j i ≡ true → joined i j ≡ true
  unfolding together
  there_back i j t u = and_intro t u

  pub joined-self : (i : ℕ) → i < length g → joined i i ≡ true
  joined-self i h = there_back i i (connected-self i h) (connected-self i h)

  pub joined-swap : (i j : ℕ) → joined i j ≡ true → joined j i ≡ true
  joined-swap i j t = there_back j i (joined_back i j t) (joined-there i j t)

  pub joined-on : (i j k : ℕ) → joined i j ≡ true → joined j k ≡ true → joined i k ≡ true
  joined-on i j k t u =
      there_back i k
      (connected-on i j k (joined-there i j t) (joined-there j k u))
      (connected-on k j i (joined_back j k u) (joined_back i j t))

  -- joined nodes are joined to the same nodes
  pub joined_same : (f i j : ℕ) → joined i j ≡ true → joined f i ≡ joined f j
  joined_same f i j t = bool-ext (λ u. joined-on f i j u t) (λ u. joined-on f j i u (joined-swap i j t))

  -- Ready for a number

  module _ (groups : Grouping) where
    abbrev pub given : ℕ → Bool
    given = numbered g (distances g) groups

    abbrev pub is_ready : ℕ → Bool
    is_ready = ready g (distances g) groups

    -- what a node of the group of i leads to is in the group or has a number
    abbrev pub Needed : ℕ → Type 0
    Needed i = (a j : ℕ) → joined i a ≡ true → Memᴰ j (successors g a) → joined i j || given j ≡ true

    pub ready-open : (i : ℕ) → is_ready i ≡ true → given i ≡ false
    unfolding ready
    ready-open i t = not-true _ (and_left _ _ t)

    pub ready-needed : (i : ℕ) → is_ready i ≡ true → Needed i
    unfolding ready
    ready-needed i t a j u l =
        let each = all-at _ (and_right (not (given i)) _ t) (up_to-mem (connected-nodes i a (joined-there i a u)).1) in
        ⊎_elim
        (λ n. absurd (true-false u (not-true _ n)))
        (λ all_of. all-at _ all_of l)
        (or_cases (not (joined i a)) _ each)

    pub needed-ready : (i : ℕ) → given i ≡ false → Needed i → is_ready i ≡ true
    unfolding ready
    needed-ready i f h =
        and_intro (not_of_false f)
        (all-intro _ (up_to (length g)) (λ a m. by_cases (joined i a)
        (λ t. or_right (not (joined i a)) (all-intro _ (successors g a) (λ j l. h a j t l)))
        (λ n. or_left _ (not_of_false n))))

    -- a node that is not ready leads to one that has no number either, and that does not lead back
    pub not-ready : (i : ℕ) → given i ≡ false → is_ready i ≡ false
        → (a j : ℕ) × (joined i a ≡ true) × Memᴰ j (successors g a) × (joined i j ≡ false) × (given j ≡ false)
    unfolding ready
    not-ready i f n =
        ⊎_elim
        (λ u. absurd (true-false (not_of_false f) u))
        (λ u.
        let (a, _, n-a) = all-fails _ (up_to (length g)) u in
        let (j, l, n-j) = all-fails _ (successors g a) (or-false-right (not (joined i a)) _ n-a) in
        (a, j, not-false _ (or-false-left _ _ n-a), l, or-false-left _ _ n-j, or-false-right (joined i j) _ n-j))
        (and-false-cases (not (given i)) _ n)

    module _ (closed : (a j : ℕ) → Memᴰ j (successors g a) → j < length g) where
      -- the nodes that i leads to
      abbrev onwards : ℕ → ℕ
      onwards i = length (filter (connected (distances g) i) (up_to (length g)))

      pub onwards-less : (i j : ℕ) → connected (distances g) i j ≡ true → connected (distances g) j i ≡ false
          → onwards j < onwards i
      onwards-less i j t f =
          let h = (connected-nodes i j t).0 in
          length-filter-less (connected (distances g) j) (connected (distances g) i)
          (λ k m u. connected-on i j k t u)
          (up_to-mem h) f (connected-self i h)

      -- so, going on from one that is not ready, we come to one that is
      pub some-ready-within : (most i : ℕ) → onwards i < most → i < length g → given i ≡ false
          → (f : ℕ) × (f < length g) × (is_ready f ≡ true)
      some-ready-within zero i l h n = absurd (let f : ⊥ = omega arith in f)
      some-ready-within (suc most) i l h n =
          by_cases (is_ready i)
          (λ t. (i, h, t))
          (λ f.
          let (a, j, i-a, a-j, apart, none) = not-ready i n f in
          let j-node = closed a j a-j in
          let on = connected-on i a j (joined-there i a i-a) (connected-step a a-j j-node) in
          let back = false-of-not-true (λ u. true-false (there_back i j on u) apart) in
          some-ready-within most j (omega (arith, onwards-less i j on back)) j-node none)

      pub some-ready : (i : ℕ) → i < length g → given i ≡ false → (f : ℕ) × (f < length g) × (is_ready f ≡ true)
      some-ready i = some-ready-within (suc (onwards i)) i (omega arith)
