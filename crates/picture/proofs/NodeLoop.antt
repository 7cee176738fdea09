-- The nodes of a text, read one after the other.
-- Assumes nothing.
use Prim.Native.Nat.{ℕ, suc, ◌+◌, ◌-◌, ◌≤◌, ◌<◌}
use mathlib.Core.Path.{◌≡◌, sym, ap, subst, ◌∙◌}
use mathlib.Core.Logic.{⊎_elim}
use mathlib.Core.List.{List, ◌∷◌, ◌++◌, flat_map, Memᴰ}
use mathlib.Core.Bool.{Bool, true, false, ◌&&◌}
use native.Mathlib.Numerals.{add-one}
use native.Mathlib.Omega.{arith}
use borrow.Author.Tests.{lt-ltb, ltb-true}
use mir.Val.{Fits}
use mir.Syntax.{w8}
use lib.Dec.{eqb, ltb}
use lib.ListN.{length, get_or, drop}
use Rattle.common.specs.Bits.{bit}
use Rattle.common.specs.Lists.{up_to}
use Rattle.common.proofs.Bools.{true-false, false-of-not-true, and_intro, and_left, and_right}
use Rattle.common.proofs.Least.{last-or-below}
use Rattle.common.proofs.Members.{up_to-below}
use Rattle.common.proofs.Sums.{flat_map-cong}
use Rattle.decimal.specs.Decimal.{starts_with}
use Rattle.decimal.proofs.Exact.{starts-rest}
use Rattle.sets.specs.Kept.Sets.{union, both, elements}
use Rattle.sets.proofs.Laws.{bit-none, bit-both, no_bits}
use Rattle.sets.proofs.Members.{bit-element, elements-none}
use Rattle.search.specs.Kept.Search.{Marked}
use Rattle.plan.specs.Groups.{Grouping, group_of, group_count, members}
use Rattle.plan.proofs.ModeDigits.{member_of}
use Rattle.picture.specs.declared.matching.Label.{Label}
use Rattle.picture.specs.Text.{line_start}
use Rattle.picture.specs.Kept.Matched.{Spans, LineLabelled, NodeRead, labelled}
use Rattle.picture.specs.Kept.Rows.{label_start, node_of}
use Rattle.picture.specs.Kept.Matched.{NodesStand, Grouped, NodesRead}
use Rattle.picture.proofs.LineParts.{node_start, start-parts, node-begins}
use Rattle.picture.proofs.Spanning.{spans-none}
use Rattle.picture.proofs.Spanning.{pieces-next, pieces_end}
use Rattle.picture.proofs.Seen.{is-labelled, labelled-same, labelled-new, stand-next}

module _ (text : List ℕ) where
  -- the nodes of a grouping, one by one
  abbrev nodes_of : Grouping → ℕ → List ℕ
  nodes_of groups j = node_of j (members groups j)

  -- the nodes of the first k groups were read
  pub record NodesUpto (numbers : List ℕ) (seen k at : ℕ) : Type 0 where
    pub inside : k ≤ 32
    pub stand : NodesStand text numbers seen k at
    pub not_more : (groups : Grouping) (rest : List ℕ) → Grouped text groups rest → k ≤ group_count groups
    pub same : (groups : Grouping) (rest : List ℕ) → Grouped text groups rest → (j : ℕ) → j < k
        → labelled numbers seen j ≡ members groups j

  pub nodes-none : {numbers : List ℕ} → 17 ≤ length text → NodesUpto numbers 0 0 17
  unfolding up_to flat_map
  nodes-none l =
      record {
        inside = omega arith;
        stand = record {
          few = λ i t. absurd (true-false t (bit-none i));
          below = λ i t. absurd (true-false t (bit-none i));
          some = λ j h. absurd (let f : ⊥ = omega arith in f);
          spans = spans-none l;
        };
        not_more = λ groups rest g. omega arith;
        same = λ groups rest g j h. absurd (let f : ⊥ = omega arith in f);
      }

  module _ {numbers : List ℕ} {seen k at : ℕ} (u : NodesUpto numbers seen k at) where
    -- the nodes that were read are those of the grouping
    spans-same : (groups : Grouping) (rest : List ℕ) → Grouped text groups rest
        → Spans text 17 (flat_map (nodes_of groups) (up_to k)) at
    spans-same groups rest g =
        let e = flat_map-cong (λ j. node_of j (labelled numbers seen j)) (nodes_of groups) (up_to k) (λ j j-in.
        ap (node_of j) (u.same groups rest g j (up_to-below k j-in))) in
        rw e at u.stand.spans

    abbrev opens : Bool
    opens = ltb k 32 && starts_with (node_start k) (drop at text)

    -- A node less

    line-opens : (groups : Grouping) (rest : List ℕ) → Grouped text groups rest → k < group_count groups → opens ≡ true
    line-opens groups rest g l =
        let there = pieces-next (nodes_of groups) (group_count groups) k rest (spans-same groups rest g) g.stands l in
        let few = g.few in
        and_intro (lt-ltb k 32 (omega arith)) (rw there (node-begins k (members groups k) _ (g.some k l)))

    pub nodes-end : {o : Bool} → o ≡ opens → o ≡ false
        → NodesRead text numbers (record { seen = seen; count = k; end = at })
    nodes-end e f =
        record {
          count = u.inside;
          stand = u.stand;
          only = λ groups rest g.
              let n : ¬ (k < group_count groups) = λ l. true-false (e ∙ line-opens groups rest g l) f in
              let m = u.not_more groups rest g in
              let all : k ≡ group_count groups = omega arith in (
                all,
                λ j l. u.same groups rest g j l,
                pieces_end (nodes_of groups) (group_count groups) k rest (spans-same groups rest g) g.stands all,
              );
        }

    -- A node more

    module _ {o : Bool} (e : o ≡ opens) (t : o ≡ true) where
      pub node-few : k < 32
      node-few = ltb-true k 32 (and_left _ _ (sym e ∙ t))

      pub node-named : k < 100
      node-named = omega (arith, node-few)

      pub node-byte : Fits w8 k
      node-byte = omega (arith, node-few)

      pub node-less : 32 - (k + 1) < 32 - k
      node-less = omega (arith, node-few)

      pub node-opened : starts_with (node_start k) (drop at text) ≡ true
      node-opened = and_right (ltb k 32) _ (sym e ∙ t)

      abbrev more : List ℕ
      more = drop (length (node_start k)) (drop at text)

      begins : drop at text ≡ line_start k ++ label_start ++ (34 ∷ more)
      begins =
          starts-rest (node_start k) (drop at text) node-opened ∙ start-parts k more

      node-more : (groups : Grouping) (rest : List ℕ) → Grouped text groups rest → k < group_count groups
      node-more groups rest g =
          let n : ¬ (k ≡ group_count groups) = λ e.
          let there = pieces_end (nodes_of groups) (group_count groups) k rest (spans-same groups rest g) g.stands e in
          g.closed k (34 ∷ more) u.inside (sym there ∙ begins) in
          let m = u.not_more groups rest g in
          omega arith

      -- the label of the grouping stands there
      own-label : (groups : Grouping) (rest : List ℕ) (g : Grouped text groups rest)
          → LineLabelled text at k (λ i. eqb (group_of groups i) k) (length groups)
          (flat_map (λ j. nodes_of groups (suc k + j)) (up_to (group_count groups - suc k)) ++ rest)
      unfolding members
      own-label groups rest g =
          let h = node-more groups rest g in
          record {
            few = g.few-machines;
            some = g.some k h;
            stands = pieces-next (nodes_of groups) (group_count groups) k rest (spans-same groups rest g) g.stands h;
          }

      pub node-stops : ((q : ℕ → Bool) (n : ℕ) (rest : List ℕ) → LineLabelled text at k q n rest → ⊥)
          → (groups : Grouping) (rest : List ℕ) → Grouped text groups rest → ⊥
      node-stops none groups rest g = none _ _ _ (own-label groups rest g)

      module _ {l : Label} (found : NodeRead text at k l) where
        -- the label has the machines of the grouping
        label_same : (groups : Grouping) (rest : List ℕ) → Grouped text groups rest
            → elements l.machines ≡ members groups k
        unfolding members
        label_same groups rest g = found.only _ _ _ (own-label groups rest g)

        -- and so none that was seen
        is-new : (groups : Grouping) (rest : List ℕ) → Grouped text groups rest → both l.machines seen ≡ 0
        is-new groups rest g =
            let same = label_same groups rest g in
            no_bits (λ i. bit-both l.machines seen i ∙ false-of-not-true (λ b.
            let new = and_left _ _ b in
            let old = and_right (bit l.machines i) _ b in
            let j = get_or numbers i 0 in
            let lower = u.stand.below i old in
            let few = u.stand.few i old in
            let own = member_of groups k (subst (λ is. Memᴰ i is) same (bit-element l.machines (omega arith) new)) in
            let other = member_of groups j
            (subst (λ is. Memᴰ i is) (u.same groups rest g j lower) (is-labelled numbers seen (omega arith) old)) in
            let f : ⊥ = omega arith in f))

        pub node-again : {b : ℕ} → b ≡ both l.machines seen → (b ≡ 0 → ⊥)
            → (groups : Grouping) (rest : List ℕ) → Grouped text groups rest → ⊥
        node-again is f groups rest g = f (is ∙ is-new groups rest g)

        not_none : l.machines ≡ 0 → ⊥
        not_none e = absurd (let f : ⊥ = omega (arith, found.some, ap (λ s. length (elements s)) e, ap length elements-none) in f)

        pub node-next : {b : ℕ} {after : List ℕ} {seen' : ℕ} → b ≡ both l.machines seen → b ≡ 0
            → Marked numbers l.machines k after → seen' ≡ union seen l.machines → NodesUpto after seen' (k + 1) l.end
        node-next {after = after} is z marked e =
            let apart = sym is ∙ z in
            rw (e, add-one k) (record {
              inside = node-few;
              stand = stand-next u.stand apart not_none found.few marked found.spans;
              not_more = λ groups rest g. node-more groups rest g;
              same = λ groups rest g j h.
                  ⊎_elim
                  (λ q. rw q (labelled-new seen apart u.stand.below marked ∙ label_same groups rest g))
                  (λ s. labelled-same seen apart u.stand.below marked j s ∙ u.same groups rest g j s)
                  (last-or-below h);
            })
