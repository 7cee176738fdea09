-- The edges of a sheet's picture: which groups the moves of a group name, said by moves and by needs.
-- Assumes nothing.
use Prim.Native.Nat.{ℕ, ◌<◌}
use mathlib.Core.Path.{◌≡◌, refl, sym, ap, ◌∙◌}
use mathlib.Core.Logic.{◌↔◌}
use mathlib.Core.List.Memᴰ
use mathlib.Core.List.{Memᴰ}
use mathlib.Core.Bool.{true}
use borrow.Author.Tests.{eqb-true, eq-eqb}
use lib.Dec.{eqb}
use lib.ListN.{length}
use Rattle.common.proofs.Lists.{any-intro, any_some}
use Rattle.common.proofs.Members.{mem-get_or, mem_index}
use Rattle.sheet.specs.Model.{Model, machine_count, move_at, absent_move}
use Rattle.sheet.specs.Valid.{Valid}
use Rattle.plan.specs.Needs.{Needs}
use Rattle.plan.specs.Groups.{Grouping, group_of, group_count, groups_of, moves_of, named_outside}
use Rattle.plan.specs.Meaning.{Belongs, MoveOf, NamesOutside}
use Rattle.plan.proofs.Named.{group-below-count, guard-valid, move-valid}
use Rattle.plan.proofs.Needs.{guard-needs}
use Rattle.plan.proofs.Words.{moves-mean, named-mean}
use Rattle.plan.proofs.Groups.{groups-of-any}
use Rattle.picture.specs.Picture.{named_by, picture_of}
use Rattle.picture.specs.Drawn.{PictureRight}
use Rattle.picture.proofs.Edges.{edges_by-members, edges_by-rises}

module _ (m : Model) (groups : Grouping) where
  -- a move of group k names group a, which is another
  abbrev Names : ℕ → ℕ → Type 0
  Names a k = (v : ℕ) × MoveOf m groups v k × NamesOutside m groups v a

  -- a machine of group k needs one of group a
  abbrev pub GroupNeeds : ℕ → ℕ → Type 0
  GroupNeeds k a = (i j : ℕ) × Belongs m groups i k × Belongs m groups j a × Needs m i j

  module _ (valid : Valid m) (all-machines : length groups ≡ machine_count m) where
    named-by-moves : (a k : ℕ) → (named_by m groups a k ≡ true) ↔ Names a k
    unfolding named_by
    named-by-moves a k =
        let own : (v : ℕ) → Memᴰ v (moves_of m groups k) → MoveOf m groups v k = λ v. (moves-mean m groups v k).0 in
        let named = named-mean m groups all-machines valid a k (moves_of m groups k) own in (
          λ t.
              let (b, b-in, e) = any_some (eqb a) (named_outside m groups k (moves_of m groups k)) t in
              let (v, v-in, names) = named.0 (Memᴰ.cast (eqb-true a b e) b-in) in
              (v, own v v-in, names),
          λ r.
              let (v, of-k, names) = r in
              any-intro (eqb a) (named.1 (v, (moves-mean m groups v k).1 of-k, names)) (eq-eqb a a refl),
        )

    names-need : (a k : ℕ) → Names a k → (a ≡ k → ⊥) × GroupNeeds k a
    names-need a k r =
        let (v, (h, own), (apart, (g, (g-in, on)))) = r in
        let v-in = mem-get_or m.moves v absent_move h in (
          λ e. apart (e ∙ sym own),
          (
            (move_at m v).machine,
            g.machine,
            ((move-valid valid v-in).present, own),
            ((guard-valid valid v-in g-in).present, on),
            guard-needs m v-in g-in,
          ),
        )

    needs-name : (a k : ℕ) → (a ≡ k → ⊥) → GroupNeeds k a → Names a k
    needs-name a k apart r =
        let (i, j, (hi, own), (hj, on), need) = r in
        let (v, h, e) = mem_index absent_move need.listed in
        let mine : group_of groups (move_at m v).machine ≡ k =
        ap (group_of groups) (ap (λ w. w.machine) e ∙ need.its_own) ∙ own in
        (v, (h, mine), (λ q. apart (q ∙ mine), (need.need, (rw e need.among, ap (group_of groups) need.on ∙ on))))

    -- the moves of group k name group a exactly if a machine of k needs one of a, and the two are not the same
    pub named-by-needs : (a k : ℕ) → (named_by m groups a k ≡ true) ↔ ((a ≡ k → ⊥) × GroupNeeds k a)
    named-by-needs a k = (
      λ t. names-need a k ((named-by-moves a k).0 t),
      λ r. (named-by-moves a k).1 (needs-name a k r.0 r.1),
    )

    names-below : (a k : ℕ) → Names a k → (a < group_count groups) × (k < group_count groups)
    names-below a k names =
        let (apart, (i, j, (hi, own), (hj, on), need)) = names-need a k names in (
          rw (← on) (group-below-count groups j (rw all-machines hj)),
          rw (← own) (group-below-count groups i (rw all-machines hi)),
        )

pub picture-right : {m : Model} → Valid m → PictureRight m
unfolding picture_of
picture-right {m} valid =
    let groups = groups_of m in
    let machines = (groups-of-any m).numbers-all in
    record {
      groups-are = refl;
      edges-exactly = λ e.
          let members = edges_by-members (named_by m groups) (group_count groups) e in
          let named = named-by-moves m groups valid machines e.source e.target in (
            λ l. named.0 (members.0 l).2,
            λ names.
                let (a-below, k-below) = names-below m groups valid machines e.source e.target names in
                members.1 (a-below, k-below, named.1 names),
          );
      edges-rise = edges_by-rises (named_by m groups) (group_count groups);
    }
