-- "Next command", by the entries of whatever plan is given.
use Rattle.std.specs.Prelude.{ℕ, zero, suc, List, [], ◌∷◌, ◌++◌, Bool, cond, not, ◌&&◌, ◌||◌, eqb, leb}
use Rattle.common.specs.Lists.{up_to, all, find}
use Rattle.common.specs.Bits.{bit}
use Rattle.common.specs.Reply.{Reply, given, Fault, fault, unless, and_then}
use Rattle.sheet.specs.Model.{Move, Model, move_count, move_at}
use Rattle.sheet.specs.Parse.{parse}
use Rattle.plan.specs.Groups.{group_of, group_count}
use Rattle.plan.specs.Modes.{size}
use Rattle.plan.specs.Table.{Entry}
use Rattle.plan.specs.Reading.{groups_in, entry_at, well_shaped}
use Rattle.plan.specs.Shown.{usable_in}
use Rattle.command.specs.State.{mode_of, state_faults}
use Rattle.command.specs.Goal.{goal_faults}
use Rattle.command.specs.Goal.{Masks, goal_masks, guard_masks, met, allowed}
use Rattle.command.specs.Attainable.{groups, present, cover_faults}

-- what next command gives: done, or a machine and a command byte
pub data Next : Type 0 where
  done : Next
  command : ℕ → ℕ → Next

module _ (m : Model) (plan : List ℕ) (state : List ℕ) where
  abbrev pub distance_to : ℕ → ℕ → ℕ
  distance_to k q = (entry_at m plan k (present m plan state k) q).distance

  -- group mode q is allowed, and no allowed one is nearer
  unfoldable pub nearest : Masks → ℕ → ℕ → Bool
  nearest masks k q =
      allowed m (groups m plan) masks k q
      && all (λ t. not (allowed m (groups m plan) masks k t) || leb (distance_to k q) (distance_to k t)) (up_to (size m (groups m plan) k))

  -- "target" of group k: of the nearest allowed modes, the first
  unfoldable pub target_of : Masks → ℕ → ℕ
  target_of masks k = find (nearest masks k) (up_to (size m (groups m plan) k)) 0

  -- a need of a move holds
  abbrev pub holds : ℕ → ℕ → Bool
  holds machine mask = bit mask (mode_of state machine)

  -- the needs of a move of group k inside the group hold, and those on other groups
  unfoldable pub holds_inside : ℕ → Move → Bool
  holds_inside k v = all (λ g. not (eqb (group_of (groups m plan) g.machine) k) || holds g.machine g.mask) v.guards

  unfoldable pub holds_outside : ℕ → Move → Bool
  holds_outside k v = all (λ g. eqb (group_of (groups m plan) g.machine) k || holds g.machine g.mask) v.guards

  -- "preparing a move": send it if its outside needs hold, else fulfil those needs as a goal, by `fulfil` in the groups below k
  unfoldable pub prepare_by : (Masks → Reply Next) → ℕ → Move → Reply Next
  prepare_by fulfil k v =
      let first = fulfil (guard_masks m (groups m plan) k v) in
      cond (holds_outside k v) (given (command v.machine v.command)) first

  -- by a test of the moves that count
  module _ (counts : ℕ → Bool) where
    -- 15 for an entry: it shows no route, or its move is absent, of another group, from another mode, held up inside k, or does not
    -- count
    unfoldable pub unfit_with : ℕ → Entry → Bool
    unfit_with k e =
        eqb e.distance 255
        || leb (move_count m) e.move
        || not (eqb (group_of (groups m plan) (move_at m e.move).machine) k)
        || not (eqb (mode_of state (move_at m e.move).machine) (move_at m e.move).from)
        || not (holds_inside k (move_at m e.move))
        || not (counts e.move)

    -- the entry of group k toward its target, followed
    unfoldable pub follow_with : (Masks → Reply Next) → Masks → ℕ → Reply Next
    follow_with fulfil masks k =
        let e = entry_at m plan k (present m plan state k) (target_of masks k) in
        unless (fault 15 0 (unfit_with k e) ∷ []) (prepare_by fulfil k (move_at m e.move))

    -- "fulfilling a wish" on the groups below n: the highest unmet one is next
    unfoldable pub fulfil_with : Masks → ℕ → Reply Next
    fulfil_with masks zero = given done
    fulfil_with masks (suc k) =
        let here = follow_with (λ needs. fulfil_with needs k) masks k in
        let below = fulfil_with masks k in
        cond (met (groups m plan) masks state k) below here

  -- the moves count that are usable by the plan
  abbrev pub unfit : ℕ → Entry → Bool
  unfit = unfit_with (usable_in m plan)

  abbrev pub follow_by : (Masks → Reply Next) → Masks → ℕ → Reply Next
  follow_by = follow_with (usable_in m plan)

  abbrev pub fulfil : Masks → ℕ → Reply Next
  fulfil = fulfil_with (usable_in m plan)

-- 13, 14, then 16 to 18: what a call with a fitting plan is refused for
unfoldable pub goal_refusals : Model → List ℕ → List ℕ → List ℕ → List Fault
goal_refusals m plan state goal = state_faults m state ++ goal_faults m goal ++ cover_faults m plan state (goal_masks m goal)

-- the shape of 15
unfoldable pub misshapen : Model → List ℕ → Bool
misshapen m plan = not (well_shaped m plan)

-- the reply of next command: tests 1 to 8 and 21, 15, 13, 14, 16 to 18, then each entry followed
unfoldable pub next_reply : List ℕ → List ℕ → List ℕ → List ℕ → Reply Next
next_reply sheet plan state goal =
    and_then (parse sheet) (λ d.
    unless (fault 15 0 (misshapen d.model plan) ∷ goal_refusals d.model plan state goal)
    (fulfil d.model plan state (goal_masks d.model goal) (group_count (groups_in d.model plan))))
