-- The index of a sheet that was read: what the code keeps of it, and its answers.
use Rattle.std.specs.Prelude.{ℕ, ◌+◌, ◌-◌, ◌/◌, List, get_or, Result, Ok, Err}
use Rattle.common.specs.Lists.{pad}
use Rattle.common.specs.Reply.{Reply, given, refused}
use Rattle.sheet.specs.declared.index.Sheet.{Sheet}
use Rattle.sheet.specs.declared.refusal.Refusal.{Refusal}
use Rattle.sheet.specs.Refusal.{number_of}
use Rattle.sheet.specs.Record.{byte, word}
use Rattle.sheet.specs.Model.{machine_count, move_count}
use Rattle.sheet.specs.Parse.{Parsed}

-- counts, and arrays with zeros behind what there is
unfoldable pub index_of : Parsed → Sheet
index_of d =
    record {
      machines = machine_count d.model;
      moves = move_count d.model;
      modes = pad 32 d.model.modes;
      live = pad 32 d.model.live;
      places = pad 250 d.places;
    }

-- the reply of reading a sheet: the index, or the refusal
abbrev pub reading_of : Result Sheet Refusal → Reply Sheet
reading_of (Ok sheet) = given sheet
reading_of (Err r) = refused (number_of r.cause) r.place

abbrev pub index_reply : Reply Parsed → Reply Sheet
index_reply (given d) = given (index_of d)
index_reply (refused number place) = refused number place

-- The answers of an index over the file that was read. A machine past the count has no modes; a move past the count has the
-- place 0, and what is read there says nothing.
abbrev pub modes_in : Sheet → ℕ → ℕ
modes_in x i = get_or x.modes i 0

abbrev pub live_in : Sheet → ℕ → ℕ
live_in x i = get_or x.live i 0

-- byte n of the body of move v, behind the four bytes of its header
abbrev pub move_byte : List ℕ → Sheet → ℕ → ℕ → ℕ
move_byte s x v n = byte s (get_or x.places v 0 + 4 + n)

-- the number of needs of move v, from the body length that its record begins with
unfoldable pub guard_count_in : List ℕ → Sheet → ℕ → ℕ
guard_count_in s x v = (word s (get_or x.places v 0) - 4) / 2
