-- The picture of a sheet is drawable: each number is in its turn.
-- Assumes nothing.
use Prim.Native.Nat.{ℕ, ◌≤◌, ◌<◌}
use mathlib.Core.Path.{◌≡◌, refl, ◌∙◌}
use mathlib.Core.List.{Memᴰ}
use mathlib.Core.Bool.{true}
use native.Mathlib.Omega.{arith}
use Rattle.sheet.specs.Model.{Model, machine_count}
use Rattle.sheet.specs.Valid.{Valid}
use Rattle.plan.specs.Needs.{Needs}
use Rattle.plan.specs.Groups.{group_of, group_count, groups_of}
use Rattle.plan.specs.Meaning.{GroupsRight}
use Rattle.plan.proofs.Groups.{groups-of-any, group-below-machines}
use Rattle.picture.specs.Picture.{Edge, edge, named_by, picture_of}
use Rattle.picture.specs.Reading.{drawable}
use Rattle.picture.proofs.Edges.{edges_by-members}
use Rattle.picture.proofs.Naming.{named-by-needs}
use Rattle.picture.proofs.DrawableMeans.{Ready, Turn, drawable-means}
use Rattle.picture.proofs.Unique.{first_member}

module _ {m : Model} (valid : Valid m) where
  abbrev group : ℕ → ℕ
  group i = group_of (groups_of m) i

  right : GroupsRight m (groups_of m)
  right = groups-of-any m

  -- an edge is a need of a lower group
  edge-lower : (e : Edge) → Memᴰ e (picture_of m).edges → e.source < e.target
  unfolding picture_of
  edge-lower e l =
      let t = ((edges_by-members (named_by m (groups_of m)) (group_count (groups_of m)) e).0 l).2 in
      let (apart, (i, j, (hi, own), (hj, on), need)) =
      (named-by-needs m (groups_of m) valid right.numbers-all e.source e.target).0 t in
      omega (arith, right.needs-first i j hi hj need)

  -- a need of another group is an edge
  need-drawn : (i j : ℕ) → i < machine_count m → j < machine_count m → Needs m i j → (group j ≡ group i → ⊥)
      → Memᴰ (edge (group j) (group i)) (picture_of m).edges
  unfolding picture_of
  need-drawn i j hi hj need apart =
      (edges_by-members (named_by m (groups_of m)) (group_count (groups_of m)) (edge (group j) (group i))).1 (
        right.below-count j hj,
        right.below-count i hi,
        (named-by-needs m (groups_of m) valid right.numbers-all (group j) (group i)).1
            (apart, (i, j, (hi, refl), (hj, refl), need)),
      )

  -- one with number k is ready for it, and among those up to any that is ready is one with number k
  has-ready : (k i : ℕ) → group i ≡ k → Ready (picture_of m) k i
  unfolding picture_of
  has-ready k i own = (omega arith, λ e e-in q. omega (arith, edge-lower e e-in))

  ready-has : (k j : ℕ) → k < group_count (groups_of m) → j < machine_count m → Ready (picture_of m) k j
      → (i : ℕ) × (group i ≡ k) × (i ≤ j)
  unfolding picture_of
  ready-has k j hk hj r =
      right.smallest-next k j hk hj r.0 (λ a b ha hb same need apart.
      r.1 (edge (group b) (group a)) (need-drawn a b ha hb need (λ q. apart (q ∙ same))) same)

  turn : (k : ℕ) → k < group_count (groups_of m) → Turn (picture_of m) k
  unfolding picture_of
  turn k h =
      let (i, (hi, own), least) = first_member right k h in
      record {
        first = i;
        below = omega (arith, right.numbers-all);
        has = own;
        is-ready = has-ready k i own;
        least = λ j hj r.
            let below : j < machine_count m = omega (arith, right.numbers-all) in
            let (x, is-k, l) = ready-has k j h below r in
            omega (arith, least x (omega arith, is-k));
      }

  pub pictures-are-drawable : 0 < machine_count m → drawable (picture_of m) ≡ true
  unfolding picture_of
  pictures-are-drawable some =
      (drawable-means (picture_of m)).1 (record {
        some = omega (arith, right.numbers-all);
        few = omega (arith, right.numbers-all, valid.few-machines);
        numbers-below = λ i h.
            let b : i < machine_count m = omega (arith, right.numbers-all) in
            omega (arith, right.numbers-all, group-below-machines m i b);
        turns = turn;
      })
