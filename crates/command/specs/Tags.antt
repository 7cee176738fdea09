-- Tags, stated: where they stand in a state, that no command is sent to a tagged machine, and where a tag hinders nothing.
use Rattle.std.specs.Prelude.{ℕ, ◌+◌, ◌*◌, ◌<◌, ◌≡◌, List, false}
use Rattle.common.specs.Reply.{given}
use Rattle.sheet.specs.Record.{byte}
use Rattle.sheet.specs.Model.{Model, machine_count}
use Rattle.sheet.specs.Parse.{Parsed, parse}
use Rattle.plan.specs.Groups.{group_of, group_count}
use Rattle.plan.specs.Reading.{groups_in}
use Rattle.plan.specs.Shown.{usable_in}
use Rattle.command.specs.State.{mode_of, tag_of}
use Rattle.command.specs.Goal.{Masks, goal_masks, met}
use Rattle.command.specs.Next.{command, next_reply}
use Rattle.command.specs.TurnedDown.{StateFits}
use Rattle.command.specs.Uncovered.{Concerns}

-- Where the mode and the tag of a machine stand, in any bytes.
abbrev pub LaidOut : Type 0
LaidOut = (state : List ℕ) (i : ℕ) → (mode_of state i ≡ byte state (2 * i)) × (tag_of state i ≡ byte state (2 * i + 1))

-- No command is sent to a tagged machine, by whatever sheet, plan, state and goal.
abbrev pub NeverTagged : Type 0
NeverTagged =
    (sheet plan state goal : List ℕ) (i c : ℕ) → next_reply sheet plan state goal ≡ given (command i c)
    → byte state (2 * i + 1) ≡ 0

-- machine i is of an unmet group, or of one upstream of such a group
pub record Concerned (m : Model) (plan : List ℕ) (masks : Masks) (state : List ℕ) (i : ℕ) : Type 0 where
  pub group : ℕ
  pub below : group < group_count (groups_in m plan)
  pub unmet : met (groups_in m plan) masks state group ≡ false
  pub concerns : Concerns m plan (usable_in m plan) state masks group (group_of (groups_in m plan) i)

-- A tag on any other machine hinders nothing: of two states with the same modes, whose tags agree on the machines that are
-- concerned, both get the same reply, under any plan.
abbrev pub TagsAside : Type 0
TagsAside =
    (sheet plan state other goal : List ℕ) (d : Parsed) → parse sheet ≡ given d
    → StateFits d.model state → StateFits d.model other
    → ((i : ℕ) → i < machine_count d.model → mode_of state i ≡ mode_of other i)
    → ((i : ℕ) → Concerned d.model plan (goal_masks d.model goal) state i → tag_of state i ≡ tag_of other i)
    → next_reply sheet plan state goal ≡ next_reply sheet plan other goal
