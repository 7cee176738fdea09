-- The clean sheet in parts, as the code lends them: the machines by their mode counts and live modes, the moves by the
-- file and where the record of each begins.
use Rattle.std.specs.Prelude.{ℕ, ◌+◌, ◌≤◌, ◌<◌, ◌≡◌, length, get_or}
use mathlib.Core.List.{List, [], ◌∷◌, ◌++◌, flat_map}
use Rattle.common.specs.Lists.{up_to}
use Rattle.sheet.specs.Record.{word, body_at, record_of}

-- the record of a machine, and of a move
unfoldable pub machine_by : List ℕ → List ℕ → ℕ → List ℕ
machine_by modes live i = record_of 1 (get_or modes i 0 ∷ get_or live i 0 ∷ [])

unfoldable pub move_by : List ℕ → List ℕ → ℕ → List ℕ
move_by file places v = record_of 2 (body_at file (get_or places v 0))

abbrev pub machines_by : List ℕ → List ℕ → List ℕ
machines_by modes live = flat_map (machine_by modes live) (up_to (length modes))

abbrev pub moves_by : List ℕ → List ℕ → List ℕ
moves_by file places = flat_map (move_by file places) (up_to (length places))

unfoldable pub clean_by : List ℕ → List ℕ → List ℕ → List ℕ → List ℕ
clean_by file modes live places = machines_by modes live ++ moves_by file places ++ record_of 3 []

-- moves of a sheet: not too many, their records whole, and none with too long a body
pub record FewMoves (file places : List ℕ) : Type 0 where
  pub few : length places ≤ 250
  pub whole : (v : ℕ) → v < length places → get_or places v 0 + 4 + word file (get_or places v 0) ≤ length file
  pub short : (v : ℕ) → v < length places → length (body_at file (get_or places v 0)) ≤ 20

pub record Lent (file modes live places : List ℕ) : Type 0 where
  pub few-machines : length modes ≤ 32
  pub same_length : length live ≡ length modes
  pub moves : FewMoves file places
