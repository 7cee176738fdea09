-- The sheets and plans of the cases, as bytes.
use Rattle.std.specs.Prelude.{ℕ, set, replicate}
use mathlib.Core.List.{List, [], ◌∷◌, ◌++◌, flat_map}
use Rattle.common.specs.Reply.{Reply, given, refused}
use Rattle.sheet.specs.Record.{record_of}
use Rattle.sheet.specs.Model.{Model}
use Rattle.sheet.specs.Parse.{Parsed, nothing, parse}
use Rattle.plan.specs.Groups.{Grouping}
use Rattle.plan.specs.Planning.{own_plan}

-- Machine 0 board (off, on), 1 fan (off, on), 2 burner (off, lit, tripped), all live. Then the seven moves, and the end.
unfoldable pub stove : List ℕ
stove =
    2 ∷ 0 ∷ 1 ∷ 0 ∷ 2 ∷ 3
    ∷ 2 ∷ 0 ∷ 1 ∷ 0 ∷ 2 ∷ 3
    ∷ 2 ∷ 0 ∷ 1 ∷ 0 ∷ 3 ∷ 7
    ∷ 4 ∷ 0 ∷ 2 ∷ 0 ∷ 0 ∷ 0 ∷ 1 ∷ 1
    ∷ 4 ∷ 0 ∷ 2 ∷ 0 ∷ 0 ∷ 1 ∷ 0 ∷ 2
    ∷ 8 ∷ 0 ∷ 2 ∷ 0 ∷ 1 ∷ 0 ∷ 1 ∷ 1 ∷ 0 ∷ 2 ∷ 2 ∷ 1
    ∷ 8 ∷ 0 ∷ 2 ∷ 0 ∷ 1 ∷ 1 ∷ 0 ∷ 2 ∷ 0 ∷ 2 ∷ 2 ∷ 1
    ∷ 8 ∷ 0 ∷ 2 ∷ 0 ∷ 2 ∷ 0 ∷ 1 ∷ 1 ∷ 0 ∷ 2 ∷ 1 ∷ 2
    ∷ 6 ∷ 0 ∷ 2 ∷ 0 ∷ 2 ∷ 1 ∷ 0 ∷ 2 ∷ 0 ∷ 2
    ∷ 6 ∷ 0 ∷ 2 ∷ 0 ∷ 2 ∷ 2 ∷ 0 ∷ 3 ∷ 0 ∷ 2
    ∷ 0 ∷ 0 ∷ 3 ∷ 0 ∷ []

-- one machine of one mode, no moves
unfoldable pub lone : List ℕ
lone = 2 ∷ 0 ∷ 1 ∷ 0 ∷ 1 ∷ 1 ∷ 0 ∷ 0 ∷ 3 ∷ 0 ∷ []

-- machine 0 a filter (fresh, used) that only goes from fresh to used, 1 a pan (off, on) that needs it used to go on
unfoldable pub filter_and_pan : List ℕ
filter_and_pan =
    2 ∷ 0 ∷ 1 ∷ 0 ∷ 2 ∷ 3
    ∷ 2 ∷ 0 ∷ 1 ∷ 0 ∷ 2 ∷ 3
    ∷ 4 ∷ 0 ∷ 2 ∷ 0 ∷ 0 ∷ 0 ∷ 1 ∷ 1
    ∷ 6 ∷ 0 ∷ 2 ∷ 0 ∷ 1 ∷ 0 ∷ 1 ∷ 1 ∷ 0 ∷ 2
    ∷ 0 ∷ 0 ∷ 3 ∷ 0 ∷ []

-- Further sheets, for what the stove does not show.

-- machine 0 a board (off, on, burnt: out of order), 1 a pan (off, on) that needs the board on to go on
unfoldable pub burnt : List ℕ
burnt =
    2 ∷ 0 ∷ 1 ∷ 0 ∷ 3 ∷ 3
    ∷ 2 ∷ 0 ∷ 1 ∷ 0 ∷ 2 ∷ 3
    ∷ 4 ∷ 0 ∷ 2 ∷ 0 ∷ 0 ∷ 0 ∷ 1 ∷ 1
    ∷ 4 ∷ 0 ∷ 2 ∷ 0 ∷ 0 ∷ 1 ∷ 0 ∷ 2
    ∷ 6 ∷ 0 ∷ 2 ∷ 0 ∷ 1 ∷ 0 ∷ 1 ∷ 1 ∷ 0 ∷ 2
    ∷ 0 ∷ 0 ∷ 3 ∷ 0 ∷ []

-- a dial of four modes, from 0 to 3, from 3 to 1 and from 0 to 2: of 1 and 2, 2 is nearer
unfoldable pub nearer : List ℕ
nearer =
    2 ∷ 0 ∷ 1 ∷ 0 ∷ 4 ∷ 15
    ∷ 4 ∷ 0 ∷ 2 ∷ 0 ∷ 0 ∷ 0 ∷ 3 ∷ 1
    ∷ 4 ∷ 0 ∷ 2 ∷ 0 ∷ 0 ∷ 3 ∷ 1 ∷ 2
    ∷ 4 ∷ 0 ∷ 2 ∷ 0 ∷ 0 ∷ 0 ∷ 2 ∷ 3
    ∷ 0 ∷ 0 ∷ 3 ∷ 0 ∷ []

-- a dial of three modes, from 0 to 2 and from 0 to 1: 1 and 2 are as near
unfoldable pub tied : List ℕ
tied =
    2 ∷ 0 ∷ 1 ∷ 0 ∷ 3 ∷ 7
    ∷ 4 ∷ 0 ∷ 2 ∷ 0 ∷ 0 ∷ 0 ∷ 2 ∷ 1
    ∷ 4 ∷ 0 ∷ 2 ∷ 0 ∷ 0 ∷ 0 ∷ 1 ∷ 2
    ∷ 0 ∷ 0 ∷ 3 ∷ 0 ∷ []

-- a filter that only goes from fresh to used, and a lamp that does not need it
unfoldable pub apart : List ℕ
apart =
    2 ∷ 0 ∷ 1 ∷ 0 ∷ 2 ∷ 3
    ∷ 2 ∷ 0 ∷ 1 ∷ 0 ∷ 2 ∷ 3
    ∷ 4 ∷ 0 ∷ 2 ∷ 0 ∷ 0 ∷ 0 ∷ 1 ∷ 1
    ∷ 4 ∷ 0 ∷ 2 ∷ 0 ∷ 1 ∷ 0 ∷ 1 ∷ 1
    ∷ 0 ∷ 0 ∷ 3 ∷ 0 ∷ []

-- machine 0 a lid (shut, open), 1 an arm (up, down, aside), 2 a filler (off, on). The lid moves while the arm is up. The
-- arm goes from down to up and from aside to down; from up to down with the lid shut, from up to aside with it open. The
-- filler goes on with the lid open and the arm down.
unfoldable pub lid_and_arm : List ℕ
lid_and_arm =
    2 ∷ 0 ∷ 1 ∷ 0 ∷ 2 ∷ 3
    ∷ 2 ∷ 0 ∷ 1 ∷ 0 ∷ 3 ∷ 7
    ∷ 2 ∷ 0 ∷ 1 ∷ 0 ∷ 2 ∷ 3
    ∷ 6 ∷ 0 ∷ 2 ∷ 0 ∷ 0 ∷ 0 ∷ 1 ∷ 1 ∷ 1 ∷ 1
    ∷ 6 ∷ 0 ∷ 2 ∷ 0 ∷ 0 ∷ 1 ∷ 0 ∷ 2 ∷ 1 ∷ 1
    ∷ 4 ∷ 0 ∷ 2 ∷ 0 ∷ 1 ∷ 1 ∷ 0 ∷ 1
    ∷ 6 ∷ 0 ∷ 2 ∷ 0 ∷ 1 ∷ 0 ∷ 1 ∷ 2 ∷ 0 ∷ 1
    ∷ 6 ∷ 0 ∷ 2 ∷ 0 ∷ 1 ∷ 0 ∷ 2 ∷ 3 ∷ 0 ∷ 2
    ∷ 4 ∷ 0 ∷ 2 ∷ 0 ∷ 1 ∷ 2 ∷ 1 ∷ 4
    ∷ 8 ∷ 0 ∷ 2 ∷ 0 ∷ 2 ∷ 0 ∷ 1 ∷ 1 ∷ 0 ∷ 2 ∷ 1 ∷ 2
    ∷ 0 ∷ 0 ∷ 3 ∷ 0 ∷ []

-- machine 0 a mixer (off, mixing, jammed, broken: out of order) that goes from off to mixing alone, 1 an oven (off, on) that goes on
-- with the mixer mixing, or by itself. What is jammed never mixes, so the first of these two moves is never usable.
unfoldable pub dead_mixer : List ℕ
dead_mixer =
    2 ∷ 0 ∷ 1 ∷ 0 ∷ 4 ∷ 7
    ∷ 2 ∷ 0 ∷ 1 ∷ 0 ∷ 2 ∷ 3
    ∷ 4 ∷ 0 ∷ 2 ∷ 0 ∷ 0 ∷ 0 ∷ 1 ∷ 1
    ∷ 6 ∷ 0 ∷ 2 ∷ 0 ∷ 1 ∷ 0 ∷ 1 ∷ 1 ∷ 0 ∷ 2
    ∷ 4 ∷ 0 ∷ 2 ∷ 0 ∷ 1 ∷ 0 ∷ 1 ∷ 2
    ∷ 0 ∷ 0 ∷ 3 ∷ 0 ∷ []

-- two machines of 8 modes, no moves
unfoldable pub eights : List ℕ
eights = 2 ∷ 0 ∷ 1 ∷ 0 ∷ 8 ∷ 255 ∷ 2 ∷ 0 ∷ 1 ∷ 0 ∷ 8 ∷ 255 ∷ 0 ∷ 0 ∷ 3 ∷ 0 ∷ []

-- three machines of 2, 5 and 7 modes, no moves
unfoldable pub seventy : List ℕ
seventy =
    2 ∷ 0 ∷ 1 ∷ 0 ∷ 2 ∷ 3 ∷ 2 ∷ 0 ∷ 1 ∷ 0 ∷ 5 ∷ 31 ∷ 2 ∷ 0 ∷ 1 ∷ 0 ∷ 7 ∷ 127 ∷ 0 ∷ 0 ∷ 3 ∷ 0 ∷ []

abbrev pub parsed_of : Reply Parsed → Parsed
parsed_of (given d) = d
parsed_of (refused number place) = nothing

-- what reading a sheet gives, and the model of it
unfoldable pub parsed_in : List ℕ → Parsed
parsed_in sheet = parsed_of (parse sheet)

unfoldable pub model_in : List ℕ → Model
model_in sheet = (parsed_in sheet).model

-- a plan for `lone` that is not its own: in shape, with another bound
unfoldable pub other_plan : List ℕ
other_plan =
    1 ∷ 0 ∷ 16 ∷ 0 ∷ 0 ∷ 2 ∷ 0 ∷ 17 ∷ 0 ∷ 0 ∷ 254 ∷ 4 ∷ 0 ∷ 18 ∷ 0 ∷ 9 ∷ 9 ∷ 9 ∷ 9 ∷ 0 ∷ 0 ∷ 3 ∷ 0 ∷ []

-- the sheet's own plan with the byte at a place changed
unfoldable pub changed_plan : List ℕ → ℕ → ℕ → List ℕ
changed_plan sheet place byte = set (own_plan (model_in sheet)) place byte

-- a plan of these group numbers and tables, with a bound of 0
unfoldable pub plan_of : Grouping → List (List ℕ) → List ℕ
plan_of groups tables =
    record_of 16 groups ++ flat_map (record_of 17) tables ++ record_of 18 (0 ∷ 0 ∷ 0 ∷ 0 ∷ []) ++ record_of 3 []

-- a table of n bytes, all 0
abbrev pub blank : ℕ → List ℕ
blank n = replicate n 0
