-- The tests of next command, one after the other: the shape of 15, then 13, then 14; each refuses for
-- itself alone, whatever is tested behind it.
-- Assumes nothing.
use Prim.Native.Nat.{ℕ}
use mathlib.Core.Path.{◌≡◌, sym, ◌∙◌}
use mathlib.Core.List.{List, ◌++◌, append_assoc}
use mathlib.Core.Bool.{true, false}
use Rattle.std.specs.Prelude.{Result, Err}
use Rattle.common.specs.Reply.{Reply, given, refused, clear, unless}
use Rattle.common.proofs.Clear.{unless-append-clear}
use Rattle.sheet.specs.declared.refusal.Refusal.{Refusal}
use Rattle.sheet.specs.Refusal.{number_of, verdict_says}
use Rattle.sheet.specs.declared.index.Sheet.{Sheet}
use Rattle.sheet.specs.Model.{Model}
use Rattle.sheet.specs.Kept.Indexed.{Indexes}
use Rattle.plan.specs.Groups.{group_count}
use Rattle.plan.specs.Reading.{groups_in, well_shaped}
use Rattle.command.specs.State.{state_faults}
use Rattle.command.specs.Goal.{goal_faults}
use Rattle.command.specs.Goal.{goal_masks}
use Rattle.command.specs.Attainable.{cover_faults}
use Rattle.command.specs.Next.{fulfil, goal_refusals, next_reply}
use Rattle.command.proofs.Asking.{misshapen-reply, shaped-reply}
use Rattle.command.proofs.Verdicts.{refused-first}

module _ (m : Model) (plan state goal : List ℕ) {A : Type 0} (r : Reply A) where
  -- 13, then 14 and the rest
  refusals-are : unless (goal_refusals m plan state goal) r
      ≡ unless (state_faults m state ++ (goal_faults m goal ++ cover_faults m plan state (goal_masks m goal))) r
  unfolding goal_refusals
  refusals-are =
      rw (append_assoc (state_faults m state) (goal_faults m goal) (cover_faults m plan state (goal_masks m goal)))

  pub state-refused : {v : Result Unit Refusal} {why : Refusal} → verdict_says v ≡ unless (state_faults m state) (given tt)
      → v ≡ Err why → refused (number_of why.cause) why.place ≡ unless (goal_refusals m plan state goal) r
  state-refused e a = sym (refusals-are ∙ refused-first (state_faults m state) e a _ r)

  pub goal-refused : {v : Result Unit Refusal} {why : Refusal} → clear (state_faults m state) ≡ true
      → verdict_says v ≡ unless (goal_faults m goal) (given tt) → v ≡ Err why
      → refused (number_of why.cause) why.place ≡ unless (goal_refusals m plan state goal) r
  goal-refused passes e a =
      sym (refusals-are ∙ unless-append-clear (state_faults m state) _ r passes
      ∙ refused-first (goal_faults m goal) e a _ r)

-- the shape of 15, for a sheet that was read
module _ {file : List ℕ} {x : Sheet} {m : Model} (i : Indexes file x m) (plan state goal : List ℕ) where
  pub shape-refused : well_shaped m plan ≡ false → refused 15 0 ≡ next_reply file plan state goal
  shape-refused wrong = sym (misshapen-reply file plan state goal i.parsed i.passes (rw (← i.model) wrong))

  pub shape-passed : well_shaped m plan ≡ true
      → next_reply file plan state goal
      ≡ unless (goal_refusals m plan state goal) (fulfil m plan state (goal_masks m goal) (group_count (groups_in m plan)))
  shape-passed right =
      shaped-reply file plan state goal i.parsed i.passes (rw (← i.model) right) ∙ rw i.model
