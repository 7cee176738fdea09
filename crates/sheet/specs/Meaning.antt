-- What reading a sheet promises: of a sheet that passes, of its index, and of a refusal.
use Rattle.std.specs.Prelude.{ℕ, ◌+◌, ◌*◌, ◌≤◌, ◌<◌, ◌≡◌, ◌⊎◌, length, get_or}
use mathlib.Core.List.{List, Memᴰ}
use Rattle.common.specs.Reply.{given, refused}
use Rattle.sheet.specs.Record.{byte}
use Rattle.sheet.specs.Model.{Move, Model, machine_count, mode_count, move_count, move_at, guard_at}
use Rattle.sheet.specs.Amend.{Amendment, replace, Amends}
use Rattle.sheet.specs.Valid.{ValidMove, Valid}
use Rattle.sheet.specs.Parse.{Parsed, parse}
use Rattle.sheet.specs.Write.{amended_bytes}
use Rattle.sheet.specs.Index.{index_of, modes_in, live_in, move_byte, guard_count_in}

-- A sheet that passes 1 to 8 and 21 is valid, and has a machine.
abbrev pub AcceptedValid : Type 0
AcceptedValid = (s : List ℕ) (d : Parsed) → parse s ≡ given d → Valid d.model × (0 < machine_count d.model)

-- A file is machines and moves, amendments and the end, written out; and a model is what the amendments make of them.
pub record Amended (s : List ℕ) (m : Model) : Type 0 where
  pub sent : Model
  pub changes : List Amendment
  pub bytes : s ≡ amended_bytes sent changes
  -- what was sent is right
  pub valid : Valid sent
  pub has-machine : 0 < machine_count sent
  pub few : length changes ≤ 64
  pub replacements-valid : (v : Move) → Memᴰ (replace v) changes → ValidMove sent v
  -- the machines stay, and of the moves those are left that stand after the last amendment
  pub same-modes : m.modes ≡ sent.modes
  pub same_live : m.live ≡ sent.live
  pub acts : Amends sent.moves changes m.moves

-- A file of bytes that passes is exactly such a file, and its model is that one: nothing in it is passed over.
abbrev pub AcceptedWhole : Type 0
AcceptedWhole = (s : List ℕ) (d : Parsed) → ((i : ℕ) → byte s i < 256) → parse s ≡ given d → Amended s d.model

-- Nothing that is right is refused: every such file passes, and is read as that model. It is a file of bytes where the
-- commands are bytes; its other numbers are.
pub record ReadBack (s : List ℕ) (m : Model) (file : Amended s m) : Type 0 where
  pub parsed : Parsed
  pub accepted : parse s ≡ given parsed
  pub same : parsed.model ≡ m
  pub bytes : ((v : ℕ) → v < move_count file.sent → (move_at file.sent v).command < 256)
      → ((v : Move) → Memᴰ (replace v) file.changes → v.command < 256) → (i : ℕ) → byte s i < 256

abbrev pub ValidAccepted : Type 0
ValidAccepted = (s : List ℕ) (m : Model) (file : Amended s m) → ReadBack s m file

-- A refusal has one of the numbers 1 to 8, or 21, and a place in the file or just behind it.
abbrev pub RefusedListed : Type 0
RefusedListed =
    (s : List ℕ) (n p : ℕ) → parse s ≡ refused n p → (((1 ≤ n) × (n ≤ 8)) ⊎ (n ≡ 21)) × (p ≤ length s)

-- Each answer of the index is the model's field.
pub record AnswersRight (s : List ℕ) (d : Parsed) : Type 0 where
  pub machines : (index_of d).machines ≡ machine_count d.model
  pub moves : (index_of d).moves ≡ move_count d.model
  pub modes : (i : ℕ) → modes_in (index_of d) i ≡ mode_count d.model i
  pub live : (i : ℕ) → live_in (index_of d) i ≡ get_or d.model.live i 0
  pub machine : (v : ℕ) → v < move_count d.model → move_byte s (index_of d) v 0 ≡ (move_at d.model v).machine
  pub from : (v : ℕ) → v < move_count d.model → move_byte s (index_of d) v 1 ≡ (move_at d.model v).from
  pub to : (v : ℕ) → v < move_count d.model → move_byte s (index_of d) v 2 ≡ (move_at d.model v).to
  pub command : (v : ℕ) → v < move_count d.model → move_byte s (index_of d) v 3 ≡ (move_at d.model v).command
  pub guards : (v : ℕ) → v < move_count d.model → guard_count_in s (index_of d) v ≡ length (move_at d.model v).guards
  pub guard-machine : (v n : ℕ) → v < move_count d.model → n < length (move_at d.model v).guards
      → move_byte s (index_of d) v (4 + 2 * n) ≡ (guard_at (move_at d.model v) n).machine
  pub guard-mask : (v n : ℕ) → v < move_count d.model → n < length (move_at d.model v).guards
      → move_byte s (index_of d) v (5 + 2 * n) ≡ (guard_at (move_at d.model v) n).mask

abbrev pub IndexAnswers : Type 0
IndexAnswers = (s : List ℕ) (d : Parsed) → parse s ≡ given d → AnswersRight s d
