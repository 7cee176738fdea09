-- The method, stated as a relation with no search: which entry's move is picked for a goal, under any plan in shape (demand 2,
-- on commands and on entries that cannot be followed), and what is replied then.
use Rattle.std.specs.Prelude.{ℕ, ◌≤◌, ◌<◌, ◌≡◌, true, false}
use mathlib.Core.List.{List, Memᴰ}
use Rattle.common.specs.Bits.{bit}
use Rattle.common.specs.Reply.{Reply, given, refused}
use Rattle.sheet.specs.Record.{byte}
use Rattle.sheet.specs.Model.{Guard, Move, Model, move_count, move_at}
use Rattle.sheet.specs.Parse.{Parsed, parse}
use Rattle.plan.specs.Groups.{group_of, group_count}
use Rattle.plan.specs.Modes.{size}
use Rattle.plan.specs.Table.{Entry}
use Rattle.plan.specs.Reading.{groups_in, entry_at, well_shaped}
use Rattle.plan.specs.Shown.{UsableUnder}
use Rattle.command.specs.State.{mode_of}
use Rattle.command.specs.Goal.{Masks, goal_masks, guard_masks, met, allowed}
use Rattle.command.specs.Attainable.{groups, present}
use Rattle.command.specs.Next.{Next, done, command, next_reply}
use Rattle.command.specs.Covered.{Admitted}
use Rattle.command.specs.Apply.{Answers}

-- what the method comes to: nothing is unmet, an entry is unfit, or an entry's move is sent
pub data Pick : Type 0 where
  none_unmet : Pick
  unfit_entry : Pick
  entry_move : ℕ → Pick

-- what is replied then
abbrev pub pick_reply : Model → Pick → Reply Next
pick_reply m none_unmet = given done
pick_reply m unfit_entry = refused 15 0
pick_reply m (entry_move v) = given (command (move_at m v).machine (move_at m v).command)

module _ (m : Model) (plan state : List ℕ) where
  -- group k is the highest-numbered unmet one below n
  pub record HighestUnmet (masks : Masks) (n k : ℕ) : Type 0 where
    pub below : k < n
    pub unmet : met (groups m plan) masks state k ≡ false
    pub above-met : (j : ℕ) → k < j → j < n → met (groups m plan) masks state j ≡ true

  -- the plan's entry from the present mode of group k to mode q
  abbrev pub entry_toward : ℕ → ℕ → Entry
  entry_toward k q = entry_at m plan k (present m plan state k) q

  -- group mode q is its target: allowed, none allowed is nearer, and of those as near it has the smallest number
  pub record Target (masks : Masks) (k q : ℕ) : Type 0 where
    pub within : q < size m (groups m plan) k
    pub fits : allowed m (groups m plan) masks k q ≡ true
    pub nearest : (t : ℕ) → t < size m (groups m plan) k → allowed m (groups m plan) masks k t ≡ true
        → (entry_toward k q).distance ≤ (entry_toward k t).distance
    pub smallest : (t : ℕ) → t < q → allowed m (groups m plan) masks k t ≡ true
        → (entry_toward k q).distance < (entry_toward k t).distance

  -- the move of that entry
  abbrev pub move_toward : ℕ → ℕ → Move
  move_toward k q = move_at m (entry_toward k q).move

  -- a need holds in the state
  abbrev pub Holds : Guard → Type 0
  Holds g = bit g.mask (mode_of state g.machine) ≡ true

  -- an entry of group k is fit to be followed: a route, by a move of k from the present mode whose needs inside k hold, and that is
  -- usable by the plan
  pub record Fit (k : ℕ) (e : Entry) : Type 0 where
    pub route : e.distance ≡ 255 → ⊥
    pub listed : e.move < move_count m
    pub own : group_of (groups m plan) (move_at m e.move).machine ≡ k
    pub from-now : mode_of state (move_at m e.move).machine ≡ (move_at m e.move).from
    pub inside : (g : Guard) → Memᴰ g (move_at m e.move).guards → group_of (groups m plan) g.machine ≡ k → Holds g
    pub usable : UsableUnder m plan e.move

  -- a move's needs outside group k all hold; or one of them does not
  abbrev pub Ready : ℕ → Move → Type 0
  Ready k v = (g : Guard) → Memᴰ g v.guards → (group_of (groups m plan) g.machine ≡ k → ⊥) → Holds g

  pub record Waits (k : ℕ) (v : Move) : Type 0 where
    pub need : Guard
    pub among : Memᴰ need v.guards
    pub outside : group_of (groups m plan) need.machine ≡ k → ⊥
    pub fails : Holds need → ⊥

  -- what the method picks for a goal on the groups below n
  pub data Picks : Masks → ℕ → Pick → Type 0 where
    nothing-unmet : {masks : Masks} {n : ℕ} → ((k : ℕ) → k < n → met (groups m plan) masks state k ≡ true)
        → Picks masks n none_unmet
    unfit : {masks : Masks} {n : ℕ} (k q : ℕ) → HighestUnmet masks n k → Target masks k q
        → (Fit k (entry_toward k q) → ⊥) → Picks masks n unfit_entry
    sends : {masks : Masks} {n : ℕ} (k q : ℕ) → HighestUnmet masks n k → Target masks k q
        → Fit k (entry_toward k q) → Ready k (move_toward k q)
        → Picks masks n (entry_move (entry_toward k q).move)
    prepares : {masks : Masks} {n : ℕ} {p : Pick} (k q : ℕ) → HighestUnmet masks n k → Target masks k q
        → Fit k (entry_toward k q) → Waits k (move_toward k q)
        → Picks (guard_masks m (groups m plan) k (move_toward k q)) k p → Picks masks n p

-- what the method picks for a caller's goal
abbrev pub PicksFor : Model → List ℕ → List ℕ → List ℕ → Pick → Type 0
PicksFor m plan state goal = Picks m plan state (goal_masks m goal) (group_count (groups_in m plan))

-- For a sheet that passes, a plan of bytes in shape, and a state and goal that pass 13 and 14, the goal covered: the method picks
-- one thing alone, and that is replied.
pub record MethodRight (m : Model) (sheet plan state goal : List ℕ) : Type 0 where
  pub pick : Pick
  pub picked : PicksFor m plan state goal pick
  pub alone : (p : Pick) → PicksFor m plan state goal p → p ≡ pick
  pub replied : next_reply sheet plan state goal ≡ pick_reply m pick
  -- the move that its entry names is the one that answers the command
  pub answers : (v : ℕ) → PicksFor m plan state goal (entry_move v)
      → Answers m state (move_at m v).machine (move_at m v).command v

abbrev pub MethodFollowed : Type 0
MethodFollowed =
    (sheet plan state goal : List ℕ) (d : Parsed) → parse sheet ≡ given d → well_shaped d.model plan ≡ true
    → ((i : ℕ) → byte plan i < 256) → Admitted d.model plan state goal → MethodRight d.model sheet plan state goal
