-- A plan whose groups, entries and bound read back as the computed ones has the laws of a plan.
-- Assumes nothing.
use Prim.Native.Nat.{ℕ, suc, ◌≤◌, ◌<◌}
use mathlib.Core.Path.{◌≡◌, refl, subst, ◌∙◌}
use mathlib.Core.Logic.{◌↔◌}
use mathlib.Core.List.{List, [], Memᴰ}
use mathlib.Core.Bool.{true}
use native.Mathlib.Omega.{arith}
use lib.ListN.{get_or}
use Rattle.sheet.specs.Model.{Model, move_count, move_at}
use Rattle.plan.specs.Groups.{Grouping, group_count, moves_of}
use Rattle.plan.specs.Modes.{size}
use Rattle.plan.specs.Usable.{leads, end_mode, usable, joined_by}
use Rattle.plan.specs.Reading.{groups_in, entry_at, bound_in, well_shaped, counted}
use Rattle.plan.specs.Routes.{usable_moves}
use Rattle.plan.specs.Table.{entry_of}
use Rattle.plan.specs.Bound.{longest, plan_bound}
use Rattle.plan.specs.Meaning.{Route, Usable, EntryRight, here, move}
use Rattle.plan.specs.Laws.{TableLaws, RouteLaws, CostLaws, PlanLaws, Connects, IsDistance}
use Rattle.plan.specs.Shown.{route_in, usable_in}
use Rattle.plan.proofs.Named.{named-below}
use Rattle.plan.proofs.Routes.{all_routes, SameIn, usable-cong}
use Rattle.plan.proofs.Words.{live-means}
use Rattle.plan.proofs.Steps.{end_mode-step, step-own, step-leads, step-end_mode}
use Rattle.plan.proofs.Usable.{Ordered, usable-means, stays-live}
use Rattle.plan.proofs.Distances.{routes-length, route-append, route-zero, between-longest}
use Rattle.plan.proofs.Entries.{entry-near, near-of-distance, entry-route, entry-at-most, entry-connects}
use Rattle.plan.proofs.Entries.{entry-right}
use Rattle.plan.proofs.EntryBytes.{entry-bytes}
use Rattle.plan.proofs.EntryRoutes.{entry-tells}
use Rattle.plan.proofs.Counted.{counted-usable}
use Rattle.plan.proofs.Costs.{cost_of, cost-rule, bound-sum}

-- what a plan says over these groups is what is computed from them
pub record ReadsBack (m : Model) (groups : Grouping) (plan : List ℕ) : Type 0 where
  pub ordered : Ordered m groups
  pub small : (k : ℕ) → k < group_count groups → size m groups k ≤ 64
  pub shaped : well_shaped m plan ≡ true
  pub entry_read : (k p q : ℕ) → k < group_count groups → p < size m groups k → q < size m groups k
      → entry_at m plan k p q
      ≡ entry_of m groups k (usable_moves m groups (joined_by (all_routes m groups)) k) (get_or (all_routes m groups) k []) p q
  pub bound-read : bound_in m plan ≡ plan_bound m groups (all_routes m groups)

-- L of each group
abbrev pub longest_of : Model → Grouping → ℕ → ℕ
longest_of m groups k = longest (get_or (all_routes m groups) k [])

-- the laws, said of given groups
abbrev pub LawsFor : Model → List ℕ → Grouping → Type 0
LawsFor m plan groups =
    PlanLaws m plan (usable_in m plan) (Usable m groups) (longest_of m groups) (cost_of m groups (all_routes m groups))

module _ (m : Model) (groups : Grouping) (plan : List ℕ) (reads : ReadsBack m groups plan) where
  module _ (k p q : ℕ) (h : k < group_count groups) (hp : p < size m groups k) (hq : q < size m groups k) where
    pub own-entry : EntryRight m groups k p q (entry_at m plan k p q)
    own-entry = rw (reads.entry_read k p q h hp hq) (entry-right reads.ordered h p q hp hq (reads.small k h))

    pub own-route : Connects m plan k p q → Route m groups k (entry_at m plan k p q).distance p q
    own-route = rw (reads.entry_read k p q h hp hq) (λ c.
        entry-route reads.ordered h p q hp hq (λ e. omega arith))

    module _ {c : ℕ} (r : Route m groups k c p q) where
      pub own-at-most : (entry_at m plan k p q).distance ≤ c
      own-at-most =
          rw (reads.entry_read k p q h hp hq)
          (entry-at-most reads.ordered h p q hp hq r)

      pub own-connects : Connects m plan k p q
      own-connects =
          rw (reads.entry_read k p q h hp hq)
          (entry-connects reads.ordered h p q hp hq (reads.small k h) r)

    pub own-longest : Connects m plan k p q → (entry_at m plan k p q).distance ≤ longest_of m groups k
    own-longest =
        rw (reads.entry_read k p q h hp hq) (λ c.
        let b = near-of-distance reads.ordered h p q hp hq refl (λ e. omega arith) in
        omega (
          arith,
          entry-near reads.ordered h p q hp hq b.0,
          between-longest reads.ordered h p q hp hq b.0,
        ))

  pub own-bytes : (k p q : ℕ) → k < group_count groups → p < size m groups k → q < size m groups k
      → (entry_at m plan k p q).distance ≤ 255
  own-bytes k p q h hp hq =
      rw (reads.entry_read k p q h hp hq)
      (omega (arith, (entry-bytes reads.ordered h (reads.small k h) p q hp hq).0))

-- The laws, over the groups that the plan writes

module _ (m : Model) (plan : List ℕ) (reads : ReadsBack m (groups_in m plan) plan) where
  abbrev o : Ordered m (groups_in m plan)
  o = reads.ordered

  abbrev own : Grouping
  own = groups_in m plan

  entries : (k p q : ℕ) → k < group_count own → p < size m own k → q < size m own k
      → EntryRight m own k p q (entry_at m plan k p q)
  entries = own-entry m own plan reads

  route : (k p q : ℕ) → k < group_count own → p < size m own k → q < size m own k → Connects m plan k p q
      → Route m own k (entry_at m plan k p q).distance p q
  route = own-route m own plan reads

  -- the first move of a route, and what is left behind it
  own_first : (k p q d : ℕ) → k < group_count own → p < size m own k → q < size m own k → IsDistance m plan k p q (suc d)
      → Memᴰ (entry_at m plan k p q).move (moves_of m own k) × Usable m own (entry_at m plan k p q).move
      × (leads m own k (move_at m (entry_at m plan k p q).move) p ≡ true)
      × ((entry_at m plan k (end_mode m own k (move_at m (entry_at m plan k p q).move) p) q).distance ≤ d)
  own_first k p q d h hp hq i =
      let (u, (r, s, on)) = (entries k p q h hp hq).first d i.0 (λ e. omega arith) in (
        step-own m o.valid own o.all-machines s,
        u,
        step-leads m o.valid own o.all-machines s,
        rw (step-end_mode m o.valid own o.all-machines s) (own-at-most m own plan reads k r q h s.wanted hq on),
      )

  -- the routes that the entries show are the computed ones
  shown-joined : (a : ℕ) → a < group_count own → SameIn m own (route_in m plan) (joined_by (all_routes m own)) a
  shown-joined a h p q hp hq =
      let whole = routes-length o h in
      let small = reads.small a h in
      rw (reads.entry_read a p q h hp hq) (entry-tells m own a _ _ p q (omega arith) (omega arith))

  -- so the moves that are usable by the entries are the usable ones
  shown-usable : (v : ℕ) → usable_in m plan v ≡ usable m own (joined_by (all_routes m own)) v
  unfolding usable_in
  shown-usable v = usable-cong m own _ _ v (λ a l. shown-joined a (named-below m own _ _ l))

  pub usable-by-entries : (v : ℕ) → v < move_count m → (usable_in m plan v ≡ true) ↔ Usable m own v
  usable-by-entries v h = rw (shown-usable v) (usable-means o v h)

  table-laws : TableLaws m plan (usable_in m plan) (Usable m own) (longest_of m own)
  table-laws =
      record {
        shaped = reads.shaped;
        usable-counts = λ v h u. (usable-by-entries v h).1 u;
        byte-entries = own-bytes m own plan reads;
        zero-self = λ k p h hp. ((entries k p p h hp hp).itself refl).0;
        self-zero = λ k p q h hp hq z. route-zero (((entries k p q h hp hq).shortest 0 (λ e. omega arith)).0 z).0;
        first-move = own_first;
        at-most-longest = own-longest m own plan reads;
      }

  route-laws : RouteLaws m plan (Usable m own)
  route-laws =
      record {
        move-connects = λ k p v h hp l u t.
            let s = end_mode-step m o.valid own o.all-machines k l hp t in
            own-connects m own plan reads k p _ h hp s.wanted (move v _ u s here);
        connects-compose = λ k p q r h hp hq hr i j.
            own-connects m own plan reads k p r h hp hr (route-append (route k p q h hp hq i) (route k q r h hq hr j));
        connects-live = λ k p q h hp hq i t.
            let live = live-means m own o.all-machines k in
            (live q).1 (stays-live o.valid own k _ p q (route k p q h hp hq i) ((live p).0 t));
      }

  cost-laws : CostLaws m plan (counted m plan (usable_in m plan)) (longest_of m own) (cost_of m own (all_routes m own))
  cost-laws =
      record {
        cost-is = λ k h. rw (counted-usable m plan _ _ shown-usable k) (cost-rule m own (all_routes m own) o.first h);
        bound-is = reads.bound-read ∙ bound-sum m own (all_routes m own);
      }

  pub laws-of-plan : LawsFor m plan own
  laws-of-plan =
      record { tables = table-laws; routes = route-laws; costs = cost-laws }

-- and over the computed groups, where the plan writes these
module _ (m : Model) (plan : List ℕ) {groups : Grouping} (e : groups_in m plan ≡ groups) where
  pub own-laws : ReadsBack m groups plan → LawsFor m plan groups
  own-laws = subst (λ own. ReadsBack m own plan → LawsFor m plan own) e (laws-of-plan m plan)

  pub own-usable : ReadsBack m groups plan → (v : ℕ) → v < move_count m → (usable_in m plan v ≡ true) ↔ Usable m groups v
  own-usable =
      subst (λ own. ReadsBack m own plan → (v : ℕ) → v < move_count m → (usable_in m plan v ≡ true) ↔ Usable m own v) e
      (usable-by-entries m plan)
