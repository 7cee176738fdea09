-- What the tests of a picture's numbers mean: ready for a number, a number in its turn, and drawable.
-- Assumes nothing.
use Prim.Native.Nat.{ℕ, ◌≤◌, ◌<◌}
use mathlib.Core.Path.{◌≡◌, refl}
use mathlib.Core.Logic.{◌↔◌}
use mathlib.Core.List.{Memᴰ}
use mathlib.Core.Bool.{Bool, true, ◌&&◌}
use native.Mathlib.Omega.{arith}
use borrow.Author.Tests.{ltb-true, lt-ltb, leb-true, le-leb, leb-false, eqb-true, eq-eqb, not-true}
use lib.Dec.{eqb, ltb, leb}
use lib.ListN.{length}
use Rattle.common.specs.Lists.{up_to, all, find}
use Rattle.common.proofs.Bools.{by_cases, true-false, false-of-not-true, and_intro, and_left, and_right, not_of_false}
use Rattle.common.proofs.Lists.{all-at, all-intro, any_none, any-fails}
use Rattle.common.proofs.Members.{mem-get_or, mem_index, up_to-mem, up_to-below}
use Rattle.common.proofs.Search.{find-holds, find-up_to-least, find-up_to-is, first_some}
use Rattle.plan.specs.Groups.{group_of, group_count, members}
use Rattle.plan.proofs.Groups.{highest-group}
use Rattle.plan.proofs.ModeDigits.{is_member}
use Rattle.picture.specs.Picture.{Edge, Picture}
use Rattle.picture.specs.Reading.{ready, in_turn, drawable}

module _ (p : Picture) where
  -- the group of machine i has no number below k, and each edge to it comes from a number below k
  abbrev pub Ready : ℕ → ℕ → Type 0
  Ready k i = (k ≤ group_of p.groups i)
      × ((e : Edge) → Memᴰ e p.edges → e.target ≡ group_of p.groups i → e.source < k)

  ready-means : (k i : ℕ) → (ready p k i ≡ true) ↔ Ready k i
  unfolding ready
  ready-means k i =
      let later : Edge → Bool = λ e. eqb e.target (group_of p.groups i) && leb k e.source in (
        λ t. (
          leb-true _ _ (and_left _ _ t),
          λ e e-in q.
              let none = any_none later (not-true _ (and_right (leb k (group_of p.groups i)) _ t)) e-in in
              by_cases (leb k e.source)
              (λ u. absurd (true-false (and_intro (eq-eqb _ _ q) u) none))
              (λ u. leb-false _ _ u),
        ),
        λ r.
            and_intro (le-leb _ _ r.0)
            (not_of_false (any-fails later p.edges (λ e e-in. false-of-not-true (λ t.
            let l = leb-true k e.source (and_right (eqb e.target (group_of p.groups i)) _ t) in
            omega (arith, r.1 e e-in (eqb-true _ _ (and_left _ _ t))))))),
      )

  -- the first machine that is ready for number k has it
  pub record Turn (k : ℕ) : Type 0 where
    pub first : ℕ
    pub below : first < length p.groups
    pub has : group_of p.groups first ≡ k
    pub is-ready : Ready k first
    pub least : (j : ℕ) → j < length p.groups → Ready k j → first ≤ j

  turn-means : (k : ℕ) → (in_turn p k ≡ true) ↔ Turn k
  unfolding in_turn
  turn-means k =
      let n = length p.groups in
      let i = find (ready p k) (up_to n) n in (
        λ t.
            let below = ltb-true i n (and_left _ _ t) in
            let some = first_some (ready p k) refl below in
            record {
              first = i;
              below = below;
              has = eqb-true _ k (and_right (ltb i n) _ t);
              is-ready = (ready-means k i).0 (find-holds (ready p k) (up_to n) n some);
              least = λ j h r. find-up_to-least (ready p k) n j h ((ready-means k j).1 r);
            },
        λ turn.
            let e : i ≡ turn.first =
            find-up_to-is (ready p k) n turn.first turn.below ((ready-means k turn.first).1 turn.is-ready)
            (λ j l. false-of-not-true (λ t.
            omega (arith, turn.least j (omega (arith, turn.below)) ((ready-means k j).0 t)))) in
            rw e (and_intro (lt-ltb _ _ turn.below) (eq-eqb _ _ turn.has)),
      )

  pub record Drawable : Type 0 where
    pub some : 0 < length p.groups
    pub few : length p.groups ≤ 32
    pub numbers-below : (i : ℕ) → i < length p.groups → group_of p.groups i < length p.groups
    pub turns : (k : ℕ) → k < group_count p.groups → Turn k

  pub drawable-means : (drawable p ≡ true) ↔ Drawable
  unfolding drawable
  drawable-means =
      let n = length p.groups in
      let sized = ltb 0 n && leb n 32 in
      let small = all (λ k. ltb k n) p.groups in (
        λ t.
            let numbers = and_left (sized && small) _ t in
            let size = and_left sized small numbers in
            record {
              some = ltb-true 0 n (and_left _ _ size);
              few = leb-true n 32 (and_right (ltb 0 n) _ size);
              numbers-below = λ i h.
                  ltb-true _ n (all-at (λ k. ltb k n) (and_right sized small numbers) (mem-get_or p.groups i 0 h));
              turns = λ k h. (turn-means k).0 (all-at (in_turn p) (and_right (sized && small) _ t) (up_to-mem h));
            },
        λ d.
            and_intro
            (and_intro
            (and_intro (lt-ltb 0 n d.some) (le-leb n 32 d.few))
            (all-intro (λ k. ltb k n) p.groups (λ k k-in.
            let (i, h, e) = mem_index 0 k-in in
            lt-ltb k n (omega (arith, d.numbers-below i h)))))
            (all-intro (in_turn p) (up_to (group_count p.groups)) (λ k k-in.
            (turn-means k).1 (d.turns k (up_to-below (group_count p.groups) k-in)))),
      )

  -- few groups, and in each a machine
  module _ (d : Drawable) where
    pub few-groups : group_count p.groups ≤ 32
    few-groups =
        let n : ¬ (32 < group_count p.groups) =
        λ l. let (i, h, high) = highest-group p.groups 32 l in omega (arith, d.few, d.numbers-below i h) in
        omega arith

    pub group-used : (k : ℕ) → k < group_count p.groups → 0 < length (members p.groups k)
    group-used k l =
        let turn = d.turns k l in
        let (i, h, e) = mem_index 0 (is_member p.groups k turn.below turn.has) in
        omega arith
