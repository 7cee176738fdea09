-- The groups of a sheet, as the code keeps them, show its picture.
-- Assumes nothing.
use Prim.Native.Nat.{ℕ, ◌≤◌, ◌<◌}
use mathlib.Core.Path.{◌≡◌, refl, sym, ap, ap₂, ◌∙◌}
use mathlib.Core.List.{List}
use mathlib.Core.Bool.{true}
use native.Mathlib.Omega.{arith}
use borrow.Author.Tests.{ltb-true, ltb-false}
use lib.Dec.{ltb}
use lib.ListN.{length, get_or, take, get_or-eq_default}
use lib.Seq.{length-take-le, get_or-take}
use Rattle.common.specs.Bits.{bit}
use Rattle.common.specs.Reply.{refused, and_then, fitted}
use Rattle.common.proofs.Bools.{by_cases, true-false}
use Rattle.sets.proofs.Laws.{bit-none}
use Rattle.sheet.specs.declared.index.Sheet.{Sheet}
use Rattle.sheet.specs.Model.{Model, machine_count}
use Rattle.sheet.specs.Kept.Indexed.{Indexes, Indexed}
use Rattle.sheet.specs.Parse.{parse}
use Rattle.sheet.proofs.Indexed.{indexes-valid}
use Rattle.plan.specs.Groups.{Grouping, group_count, groups_of}
use Rattle.plan.specs.Kept.Partition.{NeededBy}
use Rattle.plan.proofs.GroupLoops.{few-groups}
use Rattle.plan.proofs.PlanAnswers.{own-numbers}
use Rattle.plan.proofs.Planning.{length-groups_of}
use Rattle.plan.proofs.SheetGroups.{few-machines, machines-fit}
use Rattle.plan.proofs.SheetLength.{numbers-are}
use Rattle.plan.proofs.SheetNumbers.{numbers-small}
use Rattle.picture.specs.Picture.{Edge, edges_by, named_by, picture_of}
use Rattle.picture.specs.Text.{text_of}
use Rattle.picture.specs.Graph.{graph_reply}
use Rattle.picture.specs.Kept.Shown.{Shows, shown}
use Rattle.picture.proofs.Edges.{edges_by-cong}

module _ {s : List ℕ} {x : Sheet} {m : Model} (i : Indexes s x m) where
  pub drawn-reply : (room : ℕ) → graph_reply s room ≡ fitted (text_of (picture_of m)) room
  unfolding graph_reply and_then
  drawn-reply room = rw (i.passes, i.model)

  module _ {numbers targets : List ℕ} {n : ℕ} (own : numbers ≡ groups_of m) (by : NeededBy m (groups_of m) targets)
      (long : length targets ≡ 32) (count : n ≡ group_count numbers) where
    few : group_count numbers ≤ 32
    few = few-groups (numbers-small i (own-numbers i own)) refl

    count_fits : n ≤ length targets
    count_fits = omega (arith, few)

    targets-length : length (take n targets) ≡ group_count numbers
    targets-length = length-take-le n targets count_fits ∙ count

    same_target : (a : ℕ) → a < group_count numbers → get_or (take n targets) a 0 ≡ get_or targets a 0
    same_target a h = get_or-take n targets a 0 (omega arith)

    target-inside : (a k : ℕ) → bit (get_or (take n targets) a 0) k ≡ true → k < length (take n targets)
    target-inside a k t =
        by_cases (ltb a (group_count numbers))
        (λ y.
        let e = same_target a (ltb-true a (group_count numbers) y) in
        let l : k < group_count (groups_of m) = by.inside a k (ap (λ s. bit s k) (sym e) ∙ t) in
        omega (arith, targets-length, ap group_count own))
        (λ f.
        let past = get_or-eq_default (take n targets) 0 {n = a}
        (omega (arith, targets-length, ltb-false a (group_count numbers) f)) in
        absurd (true-false t (ap (λ s. bit s k) past ∙ bit-none k)))

    drawn-shows : Shows numbers (take n targets)
    drawn-shows =
        record {
          few-machines = omega (arith, ap length own, length-groups_of m, (indexes-valid i).few-machines);
          few-groups = omega (arith, targets-length, few);
          all-groups = targets-length;
          inside = target-inside;
        }

    joined : (a k : ℕ) → a < group_count numbers → k < group_count numbers
        → bit (get_or (take n targets) a 0) k ≡ named_by m (groups_of m) a k
    unfolding named_by
    joined a k h l = ap (λ s. bit s k) (same_target a h) ∙ by.bits a k

    drawn-picture : shown numbers (take n targets) ≡ picture_of m
    unfolding shown picture_of
    drawn-picture =
        let edges = ap (edges_by (λ a k. bit (get_or (take n targets) a 0) k)) targets-length
        ∙ edges_by-cong _ _ _ joined ∙ ap (λ (g : Grouping). edges_by (named_by m (groups_of m)) (group_count g)) own in
        ap₂ (λ (g : Grouping) (es : List Edge). record { groups = g; edges = es }) own edges

-- the group numbers and the sets of groups, at the front of two arrays
module _ {s : List ℕ} {x : Sheet} (d : Indexed s x) (all : List ℕ) (room : length all ≡ 64) where
  pub machines-inside : x.machines ≤ length all
  machines-inside = omega (arith, machines-fit d)

  pub machines-counted : x.machines ≡ length (take x.machines all)
  machines-counted = sym (length-take-le x.machines all machines-inside)

  pub machines-few : length (take x.machines all) ≤ 32
  machines-few = omega (arith, machines-counted, few-machines d)

module _ {s : List ℕ} {x : Sheet} (all : List ℕ) {targets : List ℕ} {n : ℕ}
    (own : (m : Model) → Indexes s x m → take (machine_count m) all ≡ groups_of m)
    (by : (m : Model) → Indexes s x m → NeededBy m (groups_of m) targets) (long : length targets ≡ 32)
    (count : n ≡ group_count (take x.machines all)) where
  pub groups-inside : Indexed s x → n ≤ length targets
  groups-inside (m, i) = count_fits i (numbers-are i all (own m i)) (by m i) long count

  pub groups-counted : Indexed s x → n ≡ length (take n targets)
  groups-counted d = sym (length-take-le n targets (groups-inside d))

  pub groups-shown : Indexed s x → Shows (take x.machines all) (take n targets)
  groups-shown (m, i) = drawn-shows i (numbers-are i all (own m i)) (by m i) long count

  pub picture-shown : (m : Model) → Indexes s x m → shown (take x.machines all) (take n targets) ≡ picture_of m
  picture-shown m i = drawn-picture i (numbers-are i all (own m i)) (by m i) long count

pub undrawn-reply : (s : List ℕ) (room : ℕ) {n p : ℕ} → parse s ≡ refused n p → graph_reply s room ≡ refused n p
unfolding graph_reply and_then
undrawn-reply s room e = rw e
