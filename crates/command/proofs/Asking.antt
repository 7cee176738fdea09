-- What next command replies: 15 to a plan out of shape, else by the causes 13, 14 and 16 to 18; and where nothing is
-- refused, what fulfilling the goal replies.
-- Assumes nothing.
use Prim.Native.Nat.{ℕ}
use mathlib.Core.Path.{◌≡◌, sym, ◌∙◌}
use mathlib.Core.List.{List, ◌++◌}
use mathlib.Core.Bool.{true, false}
use native.Mathlib.Omega.{arith}
use Rattle.common.specs.Reply.{Reply, given, refused, clear, unless, and_then}
use Rattle.common.proofs.Bools.{and_intro, and_left, and_right, not-of-true, not_of_false}
use Rattle.common.proofs.Reply.{unless-clear, unless-first, unless-later}
use Rattle.common.proofs.Clear.{clear-each, clear-append, unless-append-clear}
use Rattle.sheet.specs.Model.{Model}
use Rattle.sheet.specs.Parse.{Parsed, parse}
use Rattle.plan.specs.Groups.{group_count}
use Rattle.plan.specs.Reading.{groups_in, well_shaped}
use Rattle.command.specs.State.{state_faults}
use Rattle.command.specs.Goal.{goal_faults}
use Rattle.command.specs.Goal.{goal_masks}
use Rattle.command.specs.Attainable.{cover_faults}
use Rattle.command.specs.Next.{done, command, fulfil, goal_refusals, misshapen, next_reply}

-- two replies of next command
pub done-not-command : {i c : ℕ} → given done ≡ given (command i c) → ⊥
done-not-command e = let z : ◌≡◌ {A = ℕ} 0 1 = cc in omega arith

-- 13, 14 and 16 to 18 are three parts
module _ (m : Model) (plan state goal : List ℕ) where
  pub refusals-parts : clear (goal_refusals m plan state goal) ≡ true
      → (clear (state_faults m state) ≡ true) × (clear (goal_faults m goal) ≡ true)
      × (clear (cover_faults m plan state (goal_masks m goal)) ≡ true)
  unfolding goal_refusals
  refusals-parts h =
      let both = sym (clear-append (state_faults m state ++ goal_faults m goal) _) ∙ h in
      let front = sym (clear-append (state_faults m state) (goal_faults m goal)) ∙ and_left _ _ both in (
        and_left _ _ front,
        and_right (clear (state_faults m state)) _ front,
        and_right (clear (state_faults m state ++ goal_faults m goal)) _ both,
      )

  -- where 13 and 14 pass, 16 to 18 alone are left
  pub refusals-left : {A : Type 0} (r : Reply A) → clear (state_faults m state) ≡ true → clear (goal_faults m goal) ≡ true
      → unless (goal_refusals m plan state goal) r ≡ unless (cover_faults m plan state (goal_masks m goal)) r
  unfolding goal_refusals
  refusals-left r state-good goal-good =
      unless-append-clear (state_faults m state ++ goal_faults m goal) _ r
      (clear-append (state_faults m state) (goal_faults m goal) ∙ and_intro state-good goal-good)

-- a call whose sheet passes
module _ (sheet plan state goal : List ℕ) (d : Parsed) (parses : parse sheet ≡ given d) where
  pub misshapen-reply : well_shaped d.model plan ≡ false → next_reply sheet plan state goal ≡ refused 15 0
  unfolding next_reply misshapen and_then
  misshapen-reply f = rw parses (unless-first _ _ _ (not_of_false f))

  pub shaped-reply : well_shaped d.model plan ≡ true
      → next_reply sheet plan state goal
      ≡ unless (goal_refusals d.model plan state goal)
      (fulfil d.model plan state (goal_masks d.model goal) (group_count (groups_in d.model plan)))
  unfolding next_reply misshapen and_then
  shaped-reply t = rw parses (unless-later _ _ _ (not-of-true t))

-- a call that passes 1 to 8 and 21, 15, 13 and 14
module _ (sheet plan state goal : List ℕ) (d : Parsed) (parses : parse sheet ≡ given d)
    (shaped : well_shaped d.model plan ≡ true)
    (state-good : clear (state_faults d.model state) ≡ true)
    (goal-good : clear (goal_faults d.model goal) ≡ true) where
  -- 16 to 18 alone are left
  pub next-reply : next_reply sheet plan state goal
      ≡ unless (cover_faults d.model plan state (goal_masks d.model goal))
      (fulfil d.model plan state (goal_masks d.model goal) (group_count (groups_in d.model plan)))
  next-reply =
      shaped-reply sheet plan state goal d parses shaped
      ∙ refusals-left d.model plan state goal _ state-good goal-good

  -- and where they do not apply, fulfilling the goal replies
  pub next-fulfils : clear (cover_faults d.model plan state (goal_masks d.model goal)) ≡ true
      → next_reply sheet plan state goal
      ≡ fulfil d.model plan state (goal_masks d.model goal) (group_count (groups_in d.model plan))
  next-fulfils h = next-reply ∙ unless-clear _ _ (clear-each (cover_faults d.model plan state (goal_masks d.model goal)) h)
