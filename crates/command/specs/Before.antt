-- What stays of the replies that were given when every move counted, usable or not.
use Rattle.std.specs.Prelude.{ℕ, ◌≡◌, List, true}
use Rattle.common.specs.Reply.{given}
use Rattle.sheet.specs.Model.{Model}
use Rattle.sheet.specs.Parse.{Parsed, parse}
use Rattle.plan.specs.Groups.{group_count}
use Rattle.plan.specs.Planning.{plan_reply}
use Rattle.plan.specs.Reading.{groups_in, every_move}
use Rattle.plan.specs.Shown.{usable_in}
use Rattle.command.specs.Goal.{goal_masks}
use Rattle.command.specs.Ancestors.{upstream_in}
use Rattle.command.specs.TurnedDown.{StateFits, GoalFits}
use Rattle.command.specs.Covered.{Attains, Safe, Covered, Admitted}
use Rattle.command.specs.Next.{fulfil_with, next_reply}

-- Upstream can only shrink, under any plan.
abbrev pub FewerUpstream : Type 0
FewerUpstream =
    (m : Model) (plan : List ℕ) (k a : ℕ) → upstream_in m plan (usable_in m plan) k a ≡ true → upstream_in m plan every_move k a ≡ true

-- A goal that was covered is covered, and gets the reply that the method gave it.
pub record StillReplied (m : Model) (sheet plan state goal : List ℕ) : Type 0 where
  pub admitted : Admitted m plan state goal
  pub replied : next_reply sheet plan state goal
      ≡ fulfil_with m plan state every_move (goal_masks m goal) (group_count (groups_in m plan))

-- Under the sheet's own plan.
abbrev pub CoveredStill : Type 0
CoveredStill =
    (sheet plan state goal : List ℕ) (buffer scratch : ℕ) (d : Parsed) → parse sheet ≡ given d
    → plan_reply sheet buffer scratch ≡ given plan → StateFits d.model state → GoalFits d.model goal
    → Covered d.model plan every_move (Attains d.model plan) (Safe d.model plan) (goal_masks d.model goal) state
    (group_count (groups_in d.model plan))
    → StillReplied d.model sheet plan state goal
