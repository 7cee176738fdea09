-- What a sheet says: its machines, its moves and what each move needs ("The sheet").
use Rattle.std.specs.Prelude.{ℕ, ◌+◌, ◌-◌, ◌*◌, ◌/◌, List, [], ◌∷◌, map, ◌++◌, Bool, ◌&&◌, eqb, length, get_or}
use Rattle.common.specs.Lists.{up_to}
use Rattle.common.specs.Bits.{bit}
use Rattle.sheet.specs.Record.{byte}

-- "need": a machine, and the modes of it that are allowed, as bits
pub record Guard : Type 0 where
  pub machine : ℕ
  pub mask : ℕ

pub record Move : Type 0 where
  pub machine : ℕ
  pub from : ℕ
  pub to : ℕ
  pub command : ℕ
  pub guards : List Guard

-- machine i has `modes` i modes; bit m of its `live` byte says that mode m is live (else "out of order")
pub record Model : Type 0 where
  pub modes : List ℕ
  pub live : List ℕ
  pub moves : List Move

abbrev pub guard : ℕ → ℕ → Guard
guard machine mask = record { machine = machine; mask = mask }

abbrev pub absent_guard : Guard
absent_guard = guard 0 0

abbrev pub absent_move : Move
absent_move = record { machine = 0; from = 0; to = 0; command = 0; guards = [] }

abbrev pub empty_model : Model
empty_model = record { modes = []; live = []; moves = [] }

abbrev pub machine_count : Model → ℕ
machine_count m = length m.modes

abbrev pub move_count : Model → ℕ
move_count m = length m.moves

-- the number of modes of a machine: 0 for a machine that the sheet does not have
abbrev pub mode_count : Model → ℕ → ℕ
mode_count m i = get_or m.modes i 0

-- "live": a mode of a machine that is not out of order
abbrev pub is_live_mode : Model → ℕ → ℕ → Bool
is_live_mode m i mode = bit (get_or m.live i 0) mode

abbrev pub move_at : Model → ℕ → Move
move_at m v = get_or m.moves v absent_move

abbrev pub guard_at : Move → ℕ → Guard
guard_at v n = get_or v.guards n absent_guard

-- the move that a body writes: machine, from mode, to mode, command, then two bytes for each need
unfoldable pub move_of : List ℕ → Move
move_of body =
    record {
      machine = byte body 0;
      from = byte body 1;
      to = byte body 2;
      command = byte body 3;
      guards = map (λ n. guard (byte body (4 + 2 * n)) (byte body (5 + 2 * n))) (up_to ((length body - 4) / 2));
    }

-- whether two moves have the same machine, from mode and command
unfoldable pub is_same_move : Move → Move → Bool
is_same_move v w = eqb v.machine w.machine && eqb v.from w.from && eqb v.command w.command

unfoldable pub with_machine : Model → ℕ → ℕ → Model
with_machine m modes live =
    record { modes = m.modes ++ (modes ∷ []); live = m.live ++ (live ∷ []); moves = m.moves }

unfoldable pub with_move : Model → Move → Model
with_move m v = record { modes = m.modes; live = m.live; moves = m.moves ++ (v ∷ []) }

-- the same machines with other moves
abbrev pub with_moves : Model → List Move → Model
with_moves m moves = record { modes = m.modes; live = m.live; moves = moves }
