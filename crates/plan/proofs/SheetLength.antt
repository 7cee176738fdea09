-- The length of the plan of a sheet that has been read: its own group numbers fit the arrays, and the reply is that of
-- tests 1 to 8 and 21, 9, 10, with a number that is not 0 and a place that is small.
-- Assumes nothing.
use Prim.Native.Nat.{ℕ, ◌≤◌}
use mathlib.Core.Path.{◌≡◌, sym, ap, ◌∙◌}
use mathlib.Core.Logic.{⊎_elim}
use mathlib.Core.List.{List}
use native.Mathlib.Omega.{arith}
use lib.ListN.{length, get_or, take}
use Rattle.common.specs.Lists.{up_to, find}
use Rattle.common.specs.Reply.{Reply, given, refused, and_then}
use Rattle.common.proofs.Reply.{and_then-refused, caused-each, refused-cause}
use Rattle.sheet.specs.declared.index.Sheet.{Sheet}
use Rattle.sheet.specs.Model.{Model, machine_count}
use Rattle.sheet.specs.Parse.{Parsed, parse}
use Rattle.sheet.specs.Kept.Indexed.{Indexes}
use Rattle.sheet.proofs.Indexed.{indexes-valid, indexes-machines, indexes-modes}
use Rattle.sheet.proofs.Parsed.{parse-valid}
use Rattle.sheet.proofs.Place.{Near, refusal-near}
use Rattle.plan.specs.Groups.{group_count, groups_of}
use Rattle.plan.specs.Planning.{large, large_place, size_faults, length_reply, plan_reply}
use Rattle.plan.specs.Kept.Sizes.{SmallNumbers, CountsOf}
use Rattle.plan.specs.Kept.Making.{length_with}
use Rattle.plan.proofs.GroupLoops.{smallest-inside}
use Rattle.plan.proofs.Groups.{group-below-machines}
use Rattle.plan.proofs.Planning.{length-groups_of}
use Rattle.plan.proofs.SheetNumbers.{numbers-small}

module _ {s : List ℕ} {x : Sheet} {m : Model} (i : Indexes s x m) where
  pub length-read : length_reply s ≡ length_with m (groups_of m)
  unfolding length_reply and_then length_with
  length-read = rw (i.passes, i.model)

  -- the group numbers of the sheet, at the front of an array
  module _ (numbers : List ℕ) (e : take (machine_count m) numbers ≡ groups_of m) where
    pub numbers-are : take x.machines numbers ≡ groups_of m
    numbers-are = ap (λ n. take n numbers) (indexes-machines i) ∙ e

    numbers-length : length (take x.machines numbers) ≡ machine_count m
    numbers-length = ap length numbers-are ∙ length-groups_of m

    pub small-numbers : SmallNumbers (take x.machines numbers) x.modes
    small-numbers =
        numbers-small i
        (record {
          one_each = numbers-length ∙ sym (indexes-machines i);
          below = λ j h.
              let b = group-below-machines m j (omega (arith, numbers-length)) in
              omega (arith, ap (λ l. get_or l j 0) numbers-are, (indexes-valid i).few-machines);
        })

    -- what is computed of the numbers is the length for the sheet's own
    pub own-length : {r : Reply ℕ}
        → ((w : Model) → length (take x.machines numbers) ≡ machine_count w → CountsOf w x.modes
        → r ≡ length_with w (take x.machines numbers))
        → r ≡ length_with m (groups_of m)
    own-length f = f m numbers-length (indexes-modes i) ∙ ap (length_with m) numbers-are

-- the place of 9 is a machine's number
large-place-near : (s : List ℕ) {d : Parsed} → parse s ≡ given d → large_place d.model (groups_of d.model) ≤ 65535
unfolding large_place
large-place-near s {d} read =
    let groups = groups_of d.model in
    let small = smallest-inside groups (find (large d.model groups) (up_to (group_count groups)) 0) in
    omega (arith, (parse-valid s read).few-machines, length-groups_of d.model)

-- the place of a refusal is that of a record, or a machine's number
pub length-near : (s : List ℕ) {n p : ℕ} → length_reply s ≡ refused n p → Near n p
unfolding length_reply size_faults
length-near s e =
    ⊎_elim
    (λ unread. refusal-near s unread)
    (λ (d, read, faulty).
    let near = large-place-near s read in
    caused-each Near (omega arith) (refused-cause _ _ faulty))
    (and_then-refused (parse s) _ e)

pub plan-near : (s : List ℕ) (buffer scratch : ℕ) {n p : ℕ} → plan_reply s buffer scratch ≡ refused n p → Near n p
unfolding plan_reply size_faults
plan-near s buffer scratch e =
    ⊎_elim
    (λ unread. refusal-near s unread)
    (λ (d, read, faulty).
    let near = large-place-near s read in
    caused-each Near (omega arith) (refused-cause _ _ faulty))
    (and_then-refused (parse s) _ e)
