-- The sets of a graph's groups: machines that reach one another are a group, and the group that the code takes next
-- is the one that the numbering takes.
-- Assumes nothing.
use Prim.Native.Nat.{ℕ, ◌<◌}
use mathlib.Core.Path.{◌≡◌, sym, ap, ◌∙◌}
use mathlib.Core.Logic.{⊎_elim}
use mathlib.Core.List.{List, Memᴰ}
use mathlib.Core.Bool.{true, false, cond, not}
use native.Mathlib.Omega.{arith}
use borrow.Author.Tests.{eqb-true, eq-eqb, not-true}
use lib.Dec.{ltb}
use lib.ListN.{length, get_or}
use Rattle.common.specs.Bits.{bit}
use Rattle.common.specs.Lists.{up_to, any, find}
use Rattle.common.specs.Graph.{Graph, successors, distances, connected}
use Rattle.common.proofs.Bools.{by_cases, true-false, true-of-not-false, false-of-not-true, bool-ext, not_of_false}
use Rattle.common.proofs.Bools.{and_intro, and_left, and_right, or_left, or_right, or_cases}
use Rattle.common.proofs.Lists.{any-intro, any_some}
use Rattle.common.proofs.Members.{up_to-below}
use Rattle.common.proofs.Search.{find-cong}
use Rattle.sets.specs.Kept.Sets.{less, elements}
use Rattle.sets.proofs.Laws.{bit-none, bit-less, no_bits}
use Rattle.sets.proofs.Members.{bit-element, element-bit}
use Rattle.search.specs.Kept.Search.{Holds}
use Rattle.search.proofs.Between.{successor-bit, bit-successor, reached-connected, reached-node}
use Rattle.plan.specs.Groups.{Grouping}
use Rattle.plan.specs.Kept.MachineSets.{ReachSets, MutualSets, is_ready_by, next_group, Grouped}
use Rattle.plan.proofs.Together.{connected-nodes, joined, joined-there, joined_back, there_back}
use Rattle.plan.proofs.Together.{given, is_ready, ready-open, ready-needed, needed-ready}

-- machines that reach one another are together
pub mutual-together : (g : Graph) {n : ℕ} {next reach groups : List ℕ} → length g ≡ n → Holds g next
    → ReachSets next n reach → MutualSets reach n groups
    → (i : ℕ) → i < n → (j : ℕ) → bit (get_or groups i 0) j ≡ joined g i j
mutual-together g {n} {next} {reach} size k reached both i hi j =
    bool-ext
    (λ t.
    let b = sym ((both.each i hi).bits j) ∙ t in
    let hj = reached-node g next k j (reached.each i hi) (omega arith) (and_left _ _ b) in
    there_back g i j (sym (there hj) ∙ and_left _ _ b) (sym (back hj) ∙ and_right (bit (get_or reach i 0) j) _ b))
    (λ t.
    let hj = (connected-nodes g i j (joined-there g i j t)).1 in
    (both.each i hi).bits j ∙ and_intro (there hj ∙ joined-there g i j t) (back hj ∙ joined_back g i j t))
  where
    there : j < length g → bit (get_or reach i 0) j ≡ connected (distances g) i j
    there hj = reached-connected g next k (reached.each i hi) j hj

    back : j < length g → bit (get_or reach j 0) i ≡ connected (distances g) j i
    back hj = reached-connected g next k (reached.each j (omega arith)) i (omega arith)

module _ {g : Graph} {n : ℕ} {groups outside : List ℕ} (k : Grouped g n groups outside) where
  -- What a group needs outside

  module _ (i : ℕ) (h : i < n) where
    pub outside-some : (j : ℕ) → bit (get_or outside i 0) j ≡ true
        → (a : ℕ) × (joined g i a ≡ true) × Memᴰ j (successors g a) × (joined g i j ≡ false)
    outside-some j t =
        let b = sym ((k.needs.each i h).bits j) ∙ t in
        let (a, a_in, u) = any_some _ (elements (get_or groups i 0)) (and_left _ _ b) in (
          a,
          sym (k.group i h a) ∙ element-bit _ a_in,
          bit-successor g k.next k.holds a j u,
          sym (k.group i h j) ∙ not-true _ (and_right (any _ (elements (get_or groups i 0))) _ b),
        )

    pub some-outside : (a j : ℕ) → joined g i a ≡ true → Memᴰ j (successors g a) → joined g i j ≡ false
        → bit (get_or outside i 0) j ≡ true
    some-outside a j t l f =
        let small : a < 64 = omega (arith, connected-nodes g i a (joined-there g i a t), k.holds.small) in
        (k.needs.each i h).bits j
        ∙ and_intro
        (any-intro _ (bit-element _ small (k.group i h a ∙ t)) (successor-bit g k.next k.holds a j l))
        (not_of_false (k.group i h j ∙ f))

  -- The first group that is ready

  module _ (gs : Grouping) (numbered : ℕ) (marks : (j : ℕ) → j < length g → bit numbered j ≡ given g gs j) where
    pub ready_by : (i : ℕ) → i < n → is_ready_by (get_or outside i 0) numbered i ≡ is_ready g gs i
    unfolding is_ready_by
    ready_by i h =
        let node : i < length g = omega (arith, k.size) in
        bool-ext
        (λ t.
        let e : less (get_or outside i 0) numbered ≡ 0 = eqb-true _ _ (and_right (not (bit numbered i)) _ t) in
        needed-ready g gs i (sym (marks i node) ∙ not-true _ (and_left _ _ t))
        (λ a j ja l. by_cases (joined g i j)
        (λ y. or_left _ y)
        (λ f. or_right (joined g i j)
        (sym (marks j (k.holds.inside a j l)) ∙ true-of-not-false (λ u.
        true-false
        (and_intro (some-outside i h a j ja l f) (not_of_false u))
        (sym (bit-less (get_or outside i 0) numbered j) ∙ rw e (bit-none j)))))))
        (λ t.
        and_intro
        (not_of_false (marks i node ∙ ready-open g gs i t))
        (eq-eqb _ 0 (no_bits (λ j. false-of-not-true (λ u.
        let b = sym (bit-less (get_or outside i 0) numbered j) ∙ u in
        let (a, ja, l, f) = outside-some i h j (and_left _ _ b) in
        ⊎_elim
        (λ y. true-false y f)
        (λ y.
        true-false (marks j (k.holds.inside a j l) ∙ y) (not-true _ (and_right (bit (get_or outside i 0) j) _ b)))
        (or_cases (joined g i j) _ (ready-needed g gs i t a j ja l)))))))

    pub next-first : next_group groups outside numbered n ≡
        let i = find (is_ready g gs) (up_to (length g)) (length g) in
        cond (ltb i (length g)) (get_or groups i 0) 0
    unfolding next_group
    next-first =
        rw (← k.size)
        (ap (λ i. cond (ltb i (length g)) (get_or groups i 0) 0)
        (find-cong _ (is_ready g gs) (up_to (length g)) (length g)
        (λ i m. ready_by i (omega (arith, k.size, up_to-below (length g) m)))))
