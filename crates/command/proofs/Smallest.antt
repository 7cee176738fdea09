-- The smallest machine of a group of a shaped plan.
-- Assumes nothing.
use Prim.Native.Nat.{ℕ, ◌<◌}
use mathlib.Core.Path.{◌≡◌, sym, ◌∙◌}
use mathlib.Core.List.{List}
use mathlib.Core.Bool.{true}
use native.Mathlib.Omega.{arith}
use borrow.Author.Tests.{eqb-true, eq-eqb}
use lib.Dec.{eqb}
use lib.ListN.{length}
use Rattle.common.specs.Lists.{up_to, any}
use Rattle.common.proofs.Lists.{all-at, any-intro, any_some}
use Rattle.common.proofs.Members.{up_to-mem, mem_index}
use Rattle.common.proofs.Search.{find-holds, find-up_to-below, find-up_to-least}
use Rattle.sheet.specs.Model.{Model}
use Rattle.sheet.specs.Valid.{Valid}
use Rattle.plan.specs.Groups.{Grouping, group_of, group_count, smallest_member}
use Rattle.plan.specs.Reading.{groups_in, gapless, well_shaped}
use Rattle.command.specs.Uncovered.{Smallest}
use Rattle.command.proofs.Shape.{shape-gapless, groups-length}

-- where the numbers have no gap, every group has a machine
group-used : (groups : Grouping) (k : ℕ) → gapless groups ≡ true → k < group_count groups
    → any (λ i. eqb (group_of groups i) k) (up_to (length groups)) ≡ true
unfolding gapless
group-used groups k h below =
    let r = any_some (eqb k) groups (all-at _ h (up_to-mem below)) in
    let s = mem_index 0 r.1 in
    any-intro _ (up_to-mem s.1) (eq-eqb _ _ (s.2 ∙ sym (eqb-true _ _ r.2)))

module _ (m : Model) (valid : Valid m) (plan : List ℕ) (shaped : well_shaped m plan ≡ true) where
  pub smallest : (k : ℕ) → k < group_count (groups_in m plan)
      → Smallest m plan k (smallest_member (groups_in m plan) k)
  unfolding smallest_member
  smallest k below =
      let own = groups_in m plan in
      let n = groups-length m valid plan shaped in
      let used = group-used own k (shape-gapless m plan shaped) below in
      record {
        present = omega (arith, n, find-up_to-below (λ i. eqb (group_of own i) k) (length own) 0 used);
        member = eqb-true _ _ (find-holds (λ i. eqb (group_of own i) k) (up_to (length own)) 0 used);
        least = λ i h e. find-up_to-least (λ j. eqb (group_of own j) k) 0 i (omega arith) (eq-eqb _ _ e);
      }
