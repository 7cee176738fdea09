-- The shape of 15: a plan of bytes passes the test exactly if it has the shape, and what is read in it is what it
-- writes.
-- Assumes nothing.
use Prim.Native.Nat.{ℕ, suc, ◌≤◌, ◌<◌}
use mathlib.Core.Path.{◌≡◌, sym, ap, ◌∙◌}
use mathlib.Core.List.Memᴰ
use mathlib.Core.List.{List, [], ◌++◌, map, flat_map}
use mathlib.Core.Bool.{true}
use native.Mathlib.Omega.{arith}
use lib.ListN.{length, get_or}
use lib.Seq.{ext_get_or}
use Rattle.common.specs.Lists.{up_to}
use Rattle.common.proofs.Members.{mem_index, length-map-up_to, get_or-map-up_to}
use Rattle.common.proofs.Sums.{maximum-is-least, flat_map-map}
use Rattle.sheet.specs.Record.{record_of}
use Rattle.sheet.specs.Model.{Model}
use Rattle.sheet.specs.Valid.{Valid}
use Rattle.plan.specs.Groups.{Grouping, group_of, group_count}
use Rattle.plan.specs.Modes.{size}
use Rattle.plan.specs.Bytes.{table_length}
use Rattle.plan.specs.Reading.{entry_in, gapless, needs_first, well_shaped}
use Rattle.plan.specs.Shape.{Shaped, Reads, ShapesRight}
use Rattle.plan.proofs.Named.{group-below-count}
use Rattle.plan.proofs.Words.{gapless-means, first-means}
use Rattle.plan.proofs.ShapeTests.{shape-tests}
use Rattle.plan.proofs.Laid.{Laid, groups-read, entry_read, bound-read, laid-tests}
use Rattle.plan.proofs.Rebuilt.{plan-rebuilt}

by-places : {A : Type 0} (d : A) (xs : List A) → map (λ k. get_or xs k d) (up_to (length xs)) ≡ xs
by-places d xs =
    ext_get_or d _ xs (length-map-up_to (λ k. get_or xs k d) (length xs))
    (λ i h. get_or-map-up_to (λ k. get_or xs k d) d (rw length-map-up_to at h))

-- the count of groups, where every number below it is some machine's and none above
count-is : (groups : Grouping) (n : ℕ) → ((i : ℕ) → i < length groups → group_of groups i < n)
    → ((k : ℕ) → k < n → (i : ℕ) × (i < length groups) × (group_of groups i ≡ k)) → group_count groups ≡ n
unfolding group_count
count-is groups n below each =
    let most = maximum-is-least (map suc groups) n (λ x l.
    let (y, y-in, e) = Memᴰ.of_map suc groups l in
    let (i, h, same) = mem_index 0 y-in in
    omega (arith, below i h)) in
    let least : ¬ (group_count groups < n) = λ h.
    let (i, b, e) = each (group_count groups) h in
    omega (arith, group-below-count groups i b) in
    omega arith

module _ {m : Model} {plan : List ℕ} where
  module _ (s : Shaped m plan) where
    tables-count : group_count s.groups ≡ length s.tables
    tables-count =
        count-is s.groups (length s.tables) (rw s.numbers-all s.numbered) (rw s.numbers-all s.gapless)

    listed : flat_map (record_of 17) s.tables
        ≡ flat_map (λ k. record_of 17 (get_or s.tables k [])) (up_to (group_count s.groups))
    listed =
        rw tables-count
        (ap (flat_map (record_of 17)) (sym (by-places [] s.tables))
        ∙ flat_map-map (record_of 17) _ (up_to (length s.tables)))

    shaped-laid : Laid m s.groups plan
    unfolding table_length
    shaped-laid =
        record {
          table = λ k. get_or s.tables k [];
          bound = s.bound;
          records =
              s.records
              ∙ ap (λ l. record_of 16 s.groups ++ (l ++ (record_of 18 s.bound ++ record_of 3 []))) listed;
          numbers-all = s.numbers-all;
          table-length = rw tables-count s.table-length;
          bound-length = s.bound-length;
        }

    shaped-reads : Reads m plan s
    unfolding shaped-laid entry_in
    shaped-reads =
        let l = shaped-laid in
        record {
          groups = groups-read l;
          count = ap group_count (groups-read l) ∙ tables-count;
          distance = λ k p q h hp hq. ap (λ e. e.distance) (entry_read l k p q (rw tables-count h));
          move = λ k p q h hp hq. ap (λ e. e.move) (entry_read l k p q (rw tables-count h));
          bound = bound-read l;
        }

    pub shape-passes : Valid m → well_shaped m plan ≡ true
    shape-passes valid =
        (shape-tests m plan).1
        (laid-tests shaped-laid valid.few-machines (rw tables-count s.small)
        ((gapless-means s.groups).1 (rw (tables-count, s.numbers-all) s.gapless))
        ((first-means m s.groups).1 s.needs-first))

  -- and the other way round
  pub laid-shaped : {groups : Grouping} → Laid m groups plan → gapless groups ≡ true → needs_first m groups ≡ true
      → ((k : ℕ) → k < group_count groups → size m groups k ≤ 64) → Shaped m plan
  unfolding table_length
  laid-shaped {groups} l g f small =
      let n = length-map-up_to l.table (group_count groups) in
      record {
        groups = groups;
        tables = map l.table (up_to (group_count groups));
        bound = l.bound;
        records =
            l.records
            ∙ ap (λ t. record_of 16 groups ++ (t ++ (record_of 18 l.bound ++ record_of 3 [])))
            (sym (flat_map-map (record_of 17) l.table (up_to (group_count groups))));
        numbers-all = l.numbers-all;
        numbered = λ i h. rw n (group-below-count groups i (rw l.numbers-all h));
        gapless = rw (n, ← l.numbers-all) ((gapless-means groups).0 g);
        needs-first = (first-means m groups).0 f;
        small = rw n small;
        table-length = rw n (λ k h. ap length (get_or-map-up_to l.table [] h) ∙ l.table-length k h);
        bound-length = l.bound-length;
      }

pub shapes-right : ShapesRight
shapes-right m plan valid bytes =
    record {
      exactly = (
        λ t.
            let s = (shape-tests m plan).0 t in
            laid-shaped (plan-rebuilt m plan bytes s) s.no_gap s.first s.small,
        λ s. shape-passes s valid,
      );
      reads = shaped-reads;
    }
