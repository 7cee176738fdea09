-- The sets that are gathered from needs and numbers are, for each group, the other groups whose moves name it.
-- Assumes nothing.
use Prim.Native.Nat.{ℕ, ◌<◌}
use mathlib.Core.Path.{◌≡◌, refl, sym, ap, subst, ◌∙◌}
use mathlib.Core.List.Memᴰ
use mathlib.Core.List.{List, Memᴰ}
use mathlib.Core.Bool.{true, not, ◌&&◌}
use native.Mathlib.Omega.{arith}
use borrow.Author.Tests.{eqb-true, eqb-false, eq-eqb, ne_eqb, not-true}
use lib.Dec.{eqb}
use lib.ListN.{length, get_or, take}
use lib.Seq.{get_or-take}
use Rattle.common.specs.Bits.{bit}
use Rattle.common.specs.Lists.{up_to, any}
use Rattle.common.proofs.Bools.{bool-ext, and_intro, and_left, and_right, not_of_false}
use Rattle.common.proofs.Lists.{any-intro, any_some}
use Rattle.common.proofs.Members.{mem_index, up_to-mem}
use Rattle.sets.specs.Kept.Sets.{elements}
use Rattle.sets.proofs.Members.{bit-element, element-bit}
use Rattle.search.specs.Kept.Search.{Holds}
use Rattle.search.proofs.Between.{successor-bit, bit-successor}
use Rattle.sheet.specs.declared.index.Sheet.{Sheet}
use Rattle.sheet.specs.Model.{Move, Model, machine_count, move_at, absent_move}
use Rattle.sheet.specs.Kept.Indexed.{Indexes}
use Rattle.sheet.proofs.Indexed.{indexes-valid, indexes-machines}
use Rattle.plan.specs.Needs.{Needs, need_graph}
use Rattle.plan.specs.Groups.{Grouping, group_of, group_count, groups_of, moves_of, named_outside}
use Rattle.plan.specs.Kept.MachineSets.{some_of, NumberedNeeds, some_needs, TargetSets}
use Rattle.plan.specs.Kept.Partition.{NeededBy}
use Rattle.plan.proofs.Named.{guard-valid, group-below-count, moves-in, moves-below, moves-group, moves-mem}
use Rattle.plan.proofs.Named.{named_in, named_other, named_by}
use Rattle.plan.proofs.Needs.{guard-needs, need-successor, successor-need}
use Rattle.plan.proofs.Groups.{group-below-machines}
use Rattle.plan.proofs.Planning.{length-groups_of}

module _ {s : List ℕ} {x : Sheet} {m : Model} (i : Indexes s x m) (next numbers : List ℕ)
    (holds : Holds (need_graph m) next) (own : take (machine_count m) numbers ≡ groups_of m) where
  abbrev groups : Grouping
  groups = groups_of m

  number_is : (j : ℕ) → j < machine_count m → get_or numbers j 0 ≡ group_of groups j
  number_is j h = sym (get_or-take (machine_count m) numbers j 0 h) ∙ ap (λ l. get_or l j 0) own

  need-inside : (p j : ℕ) → bit (get_or next p 0) j ≡ true
      → (p < machine_count m) × (j < machine_count m) × Needs m p j
  need-inside p j t = successor-need m p (bit-successor (need_graph m) next holds p j t)

  pub numbered-needs : length next ≡ 64 → length numbers ≡ 64 → NumberedNeeds next numbers x.machines
  numbered-needs sets bytes =
      let same = indexes-machines i in
      let few = (indexes-valid i).few-machines in
      record {
        sets = sets;
        bytes = bytes;
        few = omega arith;
        inside = λ p j t. omega (arith, (need-inside p j t).1);
        below = λ j h.
            omega (arith, number_is j (omega arith), group-below-machines m j (omega arith));
      }

  need-named : {a k p j : ℕ} → (a ≡ k → ⊥) → group_of groups p ≡ k → group_of groups j ≡ a
      → j < machine_count m → Needs m p j → Memᴰ a (named_outside m groups k (moves_of m groups k))
  need-named {a} {k} {p} {j} other ek ea h need =
      let (v, l, e) = mem_index absent_move need.listed in
      let machine : (move_at m v).machine ≡ p = ap (λ (w : Move). w.machine) e ∙ need.its_own in
      let among : Memᴰ need.need (move_at m v).guards
      = subst (λ (w : Move). Memᴰ need.need w.guards) (sym e) need.among in
      let below = group-below-count groups j (omega (arith, length-groups_of m)) in
      named_in m groups (omega arith) other (
        v,
        moves-in m groups l (ap (group_of groups) machine ∙ ek),
        need.need,
        among,
        ap (group_of groups) need.on ∙ ea,
      )

  module _ (a k : ℕ) where
    abbrev named : List ℕ
    named = named_outside m groups k (moves_of m groups k)

    needs-listed : (not (eqb a k) && some_needs next numbers (machine_count m) a k) ≡ true → any (eqb a) named ≡ true
    unfolding some_needs some_of
    needs-listed t =
        let (p, p-in, u) = any_some _ (up_to (machine_count m)) (and_right (not (eqb a k)) _ t) in
        let (j, j-in, ea) = any_some _ (elements (get_or next p 0)) (and_right (eqb (get_or numbers p 0) k) _ u) in
        let (hp, hj, need) = need-inside p j (element-bit _ j-in) in
        any-intro (eqb a)
        (need-named (eqb-false a k (not-true _ (and_left _ _ t)))
        (sym (number_is p hp) ∙ eqb-true _ _ (and_left _ _ u)) (sym (number_is j hj) ∙ eqb-true _ _ ea) hj need)
        (eq-eqb a a refl)

    listed-needs : any (eqb a) named ≡ true → (not (eqb a k) && some_needs next numbers (machine_count m) a k) ≡ true
    unfolding some_needs some_of
    listed-needs t =
        let valid = indexes-valid i in
        let (b, b-in, e) = any_some (eqb a) named t in
        let a_in = Memᴰ.cast (eqb-true a b e) b-in in
        let (v, v-in, g, g-in, ea) = named_by m groups k (moves_of m groups k) a_in in
        let listed = moves-mem m groups k v-in in
        let hp = (valid.moves-valid v (moves-below m groups k v-in)).present in
        let hj = (guard-valid valid listed g-in).present in
        let p = (move_at m v).machine in
        let j = g.machine in
        let small : j < 64 = omega (arith, valid.few-machines) in
        let on = successor-bit (need_graph m) next holds p j (need-successor m hp hj (guard-needs m listed g-in)) in
        and_intro (not_of_false (ne_eqb a k (named_other m groups k (moves_of m groups k) a_in)))
        (any-intro _ (up_to-mem hp)
        (and_intro (eq-eqb _ _ (number_is p hp ∙ moves-group m groups k v-in))
        (any-intro _ (bit-element _ small on) (eq-eqb _ _ (number_is j hj ∙ ea)))))

    listed-inside : any (eqb a) named ≡ true → k < group_count groups
    listed-inside t =
        let (b, b-in, e) = any_some (eqb a) named t in
        let (v, v-in, g, g-in, ea) = named_by m groups k (moves_of m groups k) b-in in
        let hp = ((indexes-valid i).moves-valid v (moves-below m groups k v-in)).present in
        let below = group-below-count groups (move_at m v).machine (omega (arith, length-groups_of m)) in
        omega (arith, moves-group m groups k v-in)

  pub needed-by : {sets : List ℕ} → TargetSets next numbers x.machines sets → NeededBy m (groups_of m) sets
  needed-by {sets} t =
      let bits : (a k : ℕ) → bit (get_or sets a 0) k ≡ any (eqb a) (named a k) = λ a k.
      t.bits a k ∙ rw (indexes-machines i) (bool-ext (needs-listed a k) (listed-needs a k)) in
      record { bits = bits; inside = λ a k u. listed-inside a k (sym (bits a k) ∙ u) }
