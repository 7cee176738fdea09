-- The sheet's own grouping is right: groups are the sets of machines that need one another, needs come first,
-- numbers have no gaps, and the smallest machine comes next. Then the two tests of a plan's group numbers hold.
-- Assumes nothing.
use Prim.Native.Nat.{ℕ, suc, ◌≤◌, ◌<◌}
use mathlib.Core.Path.{◌≡◌, ◌∙◌}
use mathlib.Core.List.Memᴰ
use mathlib.Core.List.{[], ◌∷◌, map, Memᴰ}
use mathlib.Core.Bool.{true}
use native.Mathlib.Omega.{arith}
use lib.ListN.{length}
use Rattle.common.specs.Lists.{maximum}
use Rattle.common.specs.Graph.{Graph, successors, distances}
use Rattle.common.proofs.Members.{mem-get_or, mem_index}
use Rattle.common.proofs.Sums.{maximum-mem}
use Rattle.sheet.specs.Model.{Model, machine_count, move_at, absent_move}
use Rattle.sheet.specs.Valid.{Valid}
use Rattle.plan.specs.Needs.{need_graph, Reaches}
use Rattle.plan.specs.Groups.{Grouping, group_of, group_count, numbered_upto, groups_of}
use Rattle.plan.specs.Reading.{gapless, needs_first}
use Rattle.plan.specs.Meaning.{GroupsRight}
use Rattle.plan.proofs.Named.{group-below-count, move-valid, guard-valid}
use Rattle.plan.proofs.Words.{gapless-means, first-means}
use Rattle.plan.proofs.Needs.{guard-needs, length-need_graph, need-successor, successor-need}
use Rattle.plan.proofs.Needs.{connected-reaches, reaches-connected}
use Rattle.plan.proofs.Together.{joined-there, joined_back, there_back}
use Rattle.plan.proofs.Rounds.{first_at, length-round, number-joined}
use Rattle.plan.proofs.Numbering.{NeedsBelow, number-given, number-first, number-used, number-smallest, same-joined}

-- some machine has the highest number
pub highest-group : (groups : Grouping) (k : ℕ) → k < group_count groups
    → (i : ℕ) × (i < length groups) × (k ≤ group_of groups i)
unfolding group_count maximum
highest-group [] k h = absurd (let f : ⊥ = omega arith in f)
highest-group (x ∷ xs) k h =
    let r = Memᴰ.of_map suc (x ∷ xs) (maximum-mem (suc x) (map suc xs)) in
    let s = mem_index 0 r.1 in
    (s.0, s.1, omega (arith, r.2, s.2))

module _ (m : Model) where
  abbrev own : Graph
  own = need_graph m

  abbrev rounds : Grouping
  rounds = numbered_upto own (distances own) (length own)

  groups-rounds : groups_of m ≡ rounds
  unfolding groups_of
  groups-rounds = rw length-need_graph

  length-rounds : length rounds ≡ machine_count m
  length-rounds = length-round own (length own) ∙ length-need_graph m

  node : {i : ℕ} → i < machine_count m → i < length own
  node h = rw length-need_graph h

  closed : (a j : ℕ) → Memᴰ j (successors own a) → j < length own
  closed a j l = node (successor-need m a l).1

  module _ (i j : ℕ) (hi : i < machine_count m) (hj : j < machine_count m) where
    rounds-reach : group_of rounds i ≡ group_of rounds j → Reaches m i j × Reaches m j i
    rounds-reach e =
        let t = same-joined own closed i j (node hi) (node hj) e in
        (connected-reaches m i j (joined-there own i j t), connected-reaches m j i (joined_back own i j t))

    reach-rounds : Reaches m i j × Reaches m j i → group_of rounds i ≡ group_of rounds j
    reach-rounds r =
        number-joined own (length own) i j
        (there_back own i j (reaches-connected m i j hi hj r.0) (reaches-connected m j i hj hi r.1))

  rounds-used : (k : ℕ) → k < group_count rounds → (first_at own k < machine_count m) × (group_of rounds (first_at own k) ≡ k)
  rounds-used k h =
      let (i, hi, l) = highest-group rounds k h in
      let (small, e) = number-used own closed k i (rw length-round at hi) l in
      (omega (arith, length-need_graph m), e)

  rounds-smallest : (k j : ℕ) → k < group_count rounds → j < machine_count m → k ≤ group_of rounds j
      → NeedsBelow own closed k j → (i : ℕ) × (group_of rounds i ≡ k) × (i ≤ j)
  rounds-smallest k j hk hj l below =
      (first_at own k, (rounds-used k hk).1, number-smallest own closed k j (node hj) l below)

  rounds-right : GroupsRight m rounds
  rounds-right =
      record {
        numbers-all = length-rounds;
        exactly = λ i j hi hj. (rounds-reach i j hi hj, reach-rounds i j hi hj);
        below-count = λ i h. group-below-count rounds i (rw length-rounds h);
        gapless = λ k h. let u = rounds-used k h in (first_at own k, u.0, u.1);
        needs-first = λ i j hi hj t. number-first own closed i (need-successor m hi hj t) (node hi);
        smallest-next = λ k j hk hj l below.
            rounds-smallest k j hk hj l (λ a b e s n. let (ha, hb, t) = successor-need m a s in below a b ha hb e t n);
      }

  -- the demand asks this of valid sheets; it holds of any
  pub groups-of-any : GroupsRight m (groups_of m)
  groups-of-any = rw groups-rounds rounds-right

  -- every number is below the machine count
  pub group-below-machines : (i : ℕ) → i < machine_count m → group_of (groups_of m) i < machine_count m
  group-below-machines i h =
      rw groups-rounds (omega (arith, length-need_graph m, number-given own closed i (node h)))

  pub groups-right : Valid m → GroupsRight m (groups_of m)
  groups-right valid = groups-of-any

-- The tests of a plan's group numbers hold for any grouping that is right

module _ {m : Model} {groups : Grouping} where
  pub gapless-test : GroupsRight m groups → gapless groups ≡ true
  gapless-test right = (gapless-means groups).1 (rw right.numbers-all right.gapless)

  pub needs-first-test : Valid m → GroupsRight m groups → needs_first m groups ≡ true
  needs-first-test valid right =
      (first-means m groups).1 (λ v g h l.
      let v-in = mem-get_or m.moves v absent_move h in
      right.needs-first (move_at m v).machine g.machine
      (move-valid valid v-in).present (guard-valid valid v-in l).present (guard-needs m v-in l))
