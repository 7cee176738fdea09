-- Every drawable picture whose edges a relation draws is that of some sheet.
-- Assumes nothing.
use Prim.Native.Nat.{ℕ, ◌≤◌, ◌<◌}
use mathlib.Core.Path.{◌≡◌, refl, sym, ap, ap₂, subst, ◌∙◌}
use mathlib.Core.Logic.{◌⊎◌, inl, inr, ⊎_elim}
use mathlib.Core.List.Memᴰ
use mathlib.Core.List.{Memᴰ}
use mathlib.Core.Bool.{Bool, true, false, not, ◌&&◌, ◌||◌}
use native.Mathlib.Omega.{arith}
use borrow.Author.Tests.{eqb-true, eq-eqb, ne_eqb}
use lib.Dec.{eqb}
use lib.ListN.{length}
use Rattle.common.proofs.Bools.{bool-ext, and_intro, and_right, or_left, or_right, or_cases, not_of_false}
use Rattle.common.proofs.Least.{equal_or_not}
use Rattle.sheet.specs.Model.{Model, machine_count, move_count, move_at}
use Rattle.sheet.specs.Valid.{Valid}
use Rattle.sheet.specs.Write.{sheet_bytes}
use Rattle.sheet.proofs.Guarantees.{valid-accepted, clean-file}
use Rattle.plan.specs.Needs.{Needs, Reaches, itself, through}
use Rattle.plan.specs.Groups.{Grouping, group_of, group_count}
use Rattle.plan.specs.Meaning.{GroupsRight}
use Rattle.plan.proofs.Named.{group-below-count}
use Rattle.plan.proofs.Groups.{groups-of-any}
use Rattle.picture.specs.Picture.{Edge, edge, Picture, edges_by, named_by, picture_of}
use Rattle.picture.specs.Text.{text_of}
use Rattle.picture.specs.Reading.{drawable}
use Rattle.picture.specs.Drawn.{HasSheet}
use Rattle.picture.proofs.Constructed.{wanting, wanting-machines, wanting-commands, wanting-valid}
use Rattle.picture.proofs.Constructed.{needs-wanted, wanted-needs}
use Rattle.picture.proofs.Edges.{edges_by-members, edges_by-cong}
use Rattle.picture.proofs.Naming.{named-by-needs}
use Rattle.picture.proofs.DrawableMeans.{Drawable, drawable-means}
use Rattle.picture.proofs.Unique.{groups-unique}

-- a picture of these groups, where this relation draws the edges
abbrev pub drawn_by : Grouping → (ℕ → ℕ → Bool) → Picture
drawn_by groups joined = record { groups = groups; edges = edges_by joined (group_count groups) }

module _ (groups : Grouping) (joined : ℕ → ℕ → Bool) (d : Drawable (drawn_by groups joined)) where
  abbrev group : ℕ → ℕ
  group i = group_of groups i

  -- a machine wants the others of its group, and those of each group with an edge to it
  unfoldable wants : ℕ → ℕ → Bool
  wants i j = not (eqb i j) && (eqb (group i) (group j) || joined (group j) (group i))

  abbrev model : Model
  model = wanting wants (length groups)

  machines : machine_count model ≡ length groups
  machines = wanting-machines wants (length groups)

  -- the machines of the picture are those of the sheet
  of-sheet : {i : ℕ} → i < length groups → i < machine_count model
  of-sheet h = omega (arith, machines)

  of-picture : {i : ℕ} → i < machine_count model → i < length groups
  of-picture h = omega (arith, machines)

  wants-none : (i : ℕ) → i < length groups → wants i i ≡ false
  unfolding wants
  wants-none i h = rw (eq-eqb i i refl)

  model-valid : Valid model
  model-valid = wanting-valid wants (length groups) d.few wants-none

  -- an edge comes from a lower group
  pub edge-lower : (a k : ℕ) → a < group_count groups → k < group_count groups → joined a k ≡ true → a < k
  edge-lower a k ha hk t =
      let turn = d.turns k hk in
      let drawn = (edges_by-members joined (group_count groups) (edge a k)).1 (ha, hk, t) in
      turn.is-ready.1 (edge a k) drawn (sym turn.has)

  -- what is needed is in the same group or in one with an edge
  wants-cases : {i j : ℕ} → Needs model i j → (group i ≡ group j) ⊎ (joined (group j) (group i) ≡ true)
  unfolding wants
  wants-cases {i} {j} need =
      let t = needs-wanted wants (length groups) need in
      ⊎_elim (λ e. inl (eqb-true _ _ e)) (λ u. inr u)
      (or_cases (eqb (group i) (group j)) _ (and_right (not (eqb i j)) _ t))

  module _ (i j : ℕ) (hi : i < length groups) (hj : j < length groups) where
    joined-lower : joined (group j) (group i) ≡ true → group j < group i
    joined-lower t =
        edge-lower (group j) (group i) (group-below-count groups j hj) (group-below-count groups i hi) t

    need-lower : Needs model i j → group j ≤ group i
    need-lower need =
        ⊎_elim
        (λ (e : group i ≡ group j). omega arith)
        (λ t. let l = joined-lower t in omega arith)
        (wants-cases need)

    need-other : (i ≡ j → ⊥) → (eqb (group i) (group j) || joined (group j) (group i)) ≡ true → Needs model i j
    unfolding wants
    need-other n t =
        wanted-needs wants (length groups) d.few i j hi hj (and_intro (not_of_false (ne_eqb i j n)) t)

    need-joined : joined (group j) (group i) ≡ true → Needs model i j
    need-joined t =
        let l = joined-lower t in
        need-other (λ q. omega (arith, ap (group_of groups) q)) (or_right (eqb (group i) (group j)) t)

    same-reaches : group i ≡ group j → Reaches model i j
    same-reaches e =
        ⊎_elim
        (λ q. subst (λ k. Reaches model i k) q itself)
        (λ n. through j (of-sheet hj) (need-other n (or_left _ (eq-eqb _ _ e))) itself)
        (equal_or_not i j)

  reaches-lower : {i j : ℕ} → i < length groups → Reaches model i j → group j ≤ group i
  reaches-lower h itself = omega arith
  reaches-lower {i} h (through k hk need rest) =
      omega (arith, need-lower i k h (of-picture hk) need, reaches-lower (of-picture hk) rest)

  -- an edge to the group of machine j comes from a group that j needs a machine of
  source-needed : (e : Edge) (j : ℕ) → j < length groups → Memᴰ e (edges_by joined (group_count groups))
      → e.target ≡ group j
      → (b : ℕ) × (b < length groups) × (group b ≡ e.source) × Needs model j b × (group b ≡ group j → ⊥)
  source-needed e j hj l q =
      let (ha, hk, t) = (edges_by-members joined (group_count groups) e).0 l in
      let turn = d.turns e.source ha in
      let lower = edge-lower e.source e.target ha hk t in (
        turn.first,
        turn.below,
        turn.has,
        need-joined j turn.first hj turn.below (ap₂ joined turn.has (sym q) ∙ t),
        λ same. omega (arith, turn.has),
      )

  -- the groups of the picture are right for the sheet
  model-groups : GroupsRight model groups
  model-groups =
      record {
        numbers-all = sym machines;
        exactly = λ i j hi hj. (
          λ e. (
            same-reaches i j (of-picture hi) (of-picture hj) e,
            same-reaches j i (of-picture hj) (of-picture hi) (sym e),
          ),
          λ r. omega (arith, reaches-lower (of-picture hi) r.0, reaches-lower (of-picture hj) r.1),
        );
        below-count = λ i h. group-below-count groups i (of-picture h);
        gapless = λ k h. let turn = d.turns k h in (turn.first, of-sheet turn.below, turn.has);
        needs-first = λ i j hi hj need. need-lower i j (of-picture hi) (of-picture hj) need;
        smallest-next = λ k j hk hj l below.
            let turn = d.turns k hk in (
              turn.first,
              turn.has,
              turn.least j (of-picture hj) (
                l,
                λ e e-in q.
                    let (b, hb, on, need, apart) = source-needed e j (of-picture hj) e-in q in
                    omega (arith, below j b hj (of-sheet hb) refl need apart),
              ),
            );
      }

  -- and its edges are the named groups
  model-named : (a k : ℕ) → a < group_count groups → k < group_count groups → named_by model groups a k ≡ joined a k
  model-named a k ha hk =
      let named = named-by-needs model groups model-valid (sym machines) a k in
      bool-ext
      (λ t.
      let (apart, (i, j, (hi, own), (hj, on), need)) = named.0 t in
      ⊎_elim
      (λ e. absurd (apart (sym on ∙ sym e ∙ own)))
      (λ u. ap₂ joined (sym on) (sym own) ∙ u)
      (wants-cases need))
      (λ t.
      let to = d.turns k hk in
      let at = d.turns a ha in
      let lower = edge-lower a k ha hk t in
      named.1 (
        λ q. omega arith,
        (
          to.first,
          at.first,
          (of-sheet to.below, to.has),
          (of-sheet at.below, at.has),
          need-joined to.first at.first to.below at.below (ap₂ joined at.has to.has ∙ t),
        ),
      ))

  model-picture : picture_of model ≡ drawn_by groups joined
  unfolding picture_of
  model-picture =
      ap (λ gs. drawn_by gs (named_by model gs)) (groups-unique (groups-of-any model) model-groups)
      ∙ ap (λ es. record { groups = groups; edges = es }) (edges_by-cong _ joined (group_count groups) model-named)

-- a valid model with a machine, whose commands are bytes, and whose picture is this one
drawable-model : (p : Picture) (joined : ℕ → ℕ → Bool) → p.edges ≡ edges_by joined (group_count p.groups)
    → drawable p ≡ true → (m : Model) × Valid m × (0 < machine_count m)
    × ((v : ℕ) → v < move_count m → (move_at m v).command < 256) × (picture_of m ≡ p)
drawable-model p joined e ok =
    let same : drawn_by p.groups joined ≡ p = ap (λ es. record { groups = p.groups; edges = es }) (sym e) in
    let d = (drawable-means (drawn_by p.groups joined)).0 (ap drawable same ∙ ok) in (
      model p.groups joined d,
      model-valid p.groups joined d,
      rw (machines p.groups joined d) d.some,
      wanting-commands _ (length p.groups),
      model-picture p.groups joined d ∙ same,
    )

pub every-drawable-has-a-sheet : (p : Picture) (joined : ℕ → ℕ → Bool)
    → p.edges ≡ edges_by joined (group_count p.groups) → drawable p ≡ true → HasSheet (text_of p)
unfolding clean-file
every-drawable-has-a-sheet p joined e ok =
    let (m, valid, some, commands, is-p) = drawable-model p joined e ok in
    let read = valid-accepted (sheet_bytes m) m (clean-file m valid some) in
    record {
      sheet = sheet_bytes m;
      bytes = read.bytes commands (λ v i. absurd (Memᴰ.not-nil i));
      parsed = read.parsed;
      passes = read.accepted;
      drawn = ap text_of (ap picture_of read.same ∙ is-p);
    }
