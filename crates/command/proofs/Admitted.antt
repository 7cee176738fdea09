-- What may be asked is exactly what 13, 14 and 16 to 18 let pass.
-- Assumes nothing.
use Prim.Native.Nat.{ℕ}
use mathlib.Core.Path.{◌≡◌}
use mathlib.Core.List.{List}
use mathlib.Core.Bool.{true}
use Rattle.common.specs.Reply.{clear}
use Rattle.sheet.specs.Model.{Model}
use Rattle.sheet.specs.Valid.{Valid}
use Rattle.plan.specs.Reading.{well_shaped}
use Rattle.plan.specs.Shown.{usable_in}
use Rattle.command.specs.State.{state_faults}
use Rattle.command.specs.Goal.{goal_faults, goal_masks}
use Rattle.command.specs.Attainable.{cover_faults}
use Rattle.command.specs.Covered.{Admitted}
use Rattle.command.proofs.Shape.{sound-state}
use Rattle.command.proofs.Shown.{Small}
use Rattle.command.proofs.Covers.{covered-exactly}
use Rattle.command.proofs.TurnedDown.{state-passes, goal-passes}

module _ (m : Model) (valid : Valid m) (plan : List ℕ) (shaped : well_shaped m plan ≡ true) (small : Small m plan)
    (state goal : List ℕ) where
  pub admitted-passes : Admitted m plan state goal
      → (clear (state_faults m state) ≡ true) × (clear (goal_faults m goal) ≡ true)
      × (clear (cover_faults m plan state (goal_masks m goal)) ≡ true)
  admitted-passes a =
      let fits = (state-passes m state).1 a.state-fits in (
        fits,
        (goal-passes m goal).1 a.goal-fits,
        (covered-exactly m valid plan (usable_in m plan) shaped small state (sound-state m state fits) _).1 a.covered,
      )

  pub passes-admitted : clear (state_faults m state) ≡ true → clear (goal_faults m goal) ≡ true
      → clear (cover_faults m plan state (goal_masks m goal)) ≡ true → Admitted m plan state goal
  passes-admitted fits fine covers =
      record {
        state-fits = (state-passes m state).0 fits;
        goal-fits = (goal-passes m goal).0 fine;
        covered = (covered-exactly m valid plan (usable_in m plan) shaped small state (sound-state m state fits) _).0 covers;
      }
