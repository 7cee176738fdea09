-- "Wishes, and which are covered": what a goal ("wish") allows each machine, when a group is met, and 14 of "Why a call is turned down".
-- A goal is a mask for each machine. It is made of the caller's bytes, or of a move's needs.
use Rattle.std.specs.Prelude.{ℕ, List, [], ◌∷◌, map, Bool, cond, ◌||◌, length, get_or, eqb, ltb}
use Rattle.common.specs.Lists.{up_to, all, any, find}
use Rattle.common.specs.Bits.{bit, beyond}
use Rattle.common.specs.Reply.{Fault, fault}
use Rattle.sheet.specs.Record.{byte}
use Rattle.sheet.specs.Model.{Move, Model, machine_count, mode_count, guard}
use Rattle.plan.specs.Groups.{Grouping, group_of, members}
use Rattle.plan.specs.Modes.{mode_in}
use Rattle.command.specs.State.{mode_of}

abbrev pub Masks : Type 0
Masks = List ℕ

-- any mode of at most 8
abbrev pub any_mode : ℕ
any_mode = 255

abbrev pub allows : Masks → ℕ → ℕ → Bool
allows masks i mode = bit (get_or masks i any_mode) mode

-- what the caller's goal allows machine i: its byte, and past the goal's end any mode
abbrev pub wished : List ℕ → ℕ → ℕ
wished goal i = cond (ltb i (length goal)) (byte goal i) any_mode

-- the caller's goal
unfoldable pub goal_masks : Model → List ℕ → Masks
goal_masks m goal = map (wished goal) (up_to (machine_count m))

-- what a move of group k needs of other groups, as a goal; all other machines are free
unfoldable pub guard_masks : Model → Grouping → ℕ → Move → Masks
guard_masks m groups k v =
    map (λ i. cond (eqb (group_of groups i) k) any_mode (find (λ g. eqb g.machine i) v.guards (guard i any_mode)).mask)
    (up_to (machine_count m))

-- "met": each machine of group k is in a mode that is allowed to it
unfoldable pub met : Grouping → Masks → List ℕ → ℕ → Bool
met groups masks state k = all (λ i. allows masks i (mode_of state i)) (members groups k)

-- group mode q of group k is allowed
unfoldable pub allowed : Model → Grouping → Masks → ℕ → ℕ → Bool
allowed m groups masks k q = all (λ i. allows masks i (mode_in m groups k q i)) (members groups k)

module _ (m : Model) where
  -- 14: the goal is too long (place 255), or a byte is empty or beyond (place the first such machine)
  unfoldable pub bad_byte : List ℕ → ℕ → Bool
  bad_byte goal i = eqb (byte goal i) 0 || beyond (mode_count m i) (byte goal i)

  unfoldable pub goal_faults : List ℕ → List Fault
  goal_faults goal =
      fault 14 255 (ltb (machine_count m) (length goal))
      ∷ fault 14 (find (bad_byte goal) (up_to (length goal)) 0) (any (bad_byte goal) (up_to (length goal)))
      ∷ []
