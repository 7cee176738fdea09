-- "Wishes, and which are covered": the lent state, with 13 of "Why a call is turned down". Its length is judged before its bytes.
-- A state has two bytes for each machine: its mode, then its tag, 1 if nobody may move it, else 0.
use Rattle.std.specs.Prelude.{ℕ, ◌*◌, List, [], ◌∷◌, Bool, not, ◌||◌, length, get_or, set, drop, eqb, leb}
use Rattle.common.specs.Lists.{up_to, any, find}
use Rattle.common.specs.Reply.{Fault, fault}
use Rattle.sheet.specs.Model.{Model, machine_count, mode_count}

-- every second byte, from the first on
unfoldable pub every_second : List ℕ → List ℕ
every_second [] = []
every_second (x ∷ []) = x ∷ []
every_second (x ∷ y ∷ rest) = x ∷ every_second rest

-- the modes and the tags of a state, one for each machine: the only readers of a state's bytes
unfoldable pub modes : List ℕ → List ℕ
modes state = every_second state

unfoldable pub tags : List ℕ → List ℕ
tags state = every_second (drop 1 state)

-- the mode of a machine in a state, and its tag
abbrev pub mode_of : List ℕ → ℕ → ℕ
mode_of state i = get_or (modes state) i 0

abbrev pub tag_of : List ℕ → ℕ → ℕ
tag_of state i = get_or (tags state) i 0

-- nobody has hung a tag on machine i
abbrev pub untagged : List ℕ → ℕ → Bool
untagged state i = eqb (tag_of state i) 0

-- the state with machine i in another mode: the only writer
unfoldable pub with_mode : List ℕ → ℕ → ℕ → List ℕ
with_mode state i mode = set state (2 * i) mode

module _ (m : Model) where
  -- 13: the length is wrong (place 255), or a mode is absent or a tag neither 0 nor 1 (place the first such machine)
  unfoldable pub bad_pair : List ℕ → ℕ → Bool
  bad_pair state i = leb (mode_count m i) (mode_of state i) || leb 2 (tag_of state i)

  unfoldable pub state_faults : List ℕ → List Fault
  state_faults state =
      fault 13 255 (not (eqb (length state) (2 * machine_count m)))
      ∷ fault 13 (find (bad_pair state) (up_to (machine_count m)) 0) (any (bad_pair state) (up_to (machine_count m)))
      ∷ []
