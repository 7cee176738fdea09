-- What reading a sheet keeps of the records so far, in counts and arrays.
use Rattle.std.specs.Prelude.{ℕ, ◌+◌, ◌*◌, ◌-◌, ◌≤◌, ◌<◌, ◌≡◌, Bool, true, false, not, List, map, eqb, length, get_or, Option, Some, None}
use Rattle.std.proofs.Common.{Fits}
use Rattle.std.specs.Int.{w8}
use Rattle.common.specs.Lists.{filter, pad}
use Rattle.sheet.specs.Kept.Held.{Counts}
use Rattle.sheet.specs.declared.amending.Amendment.{Amendment}
use Rattle.sheet.specs.Record.{byte, word, body_at}
use Rattle.sheet.specs.Model.{Move, absent_move, move_of, is_same_move}
use Rattle.sheet.specs.Amend.{Draft}
use Rattle.sheet.specs.Parse.{Progress, parse_from, parse}
use Rattle.sheet.specs.Kept.Held.{Held}
use Rattle.sheet.specs.Kept.Sent.{Keyed}

-- the move whose record begins at a place
unfoldable pub move_there : List ℕ → ℕ → Move
move_there s place = move_of (body_at s place)

-- a place where a record begins; a withdrawn move has none
unfoldable pub is_place : ℕ → Bool
is_place place = not (eqb place 0)

-- a move with the machine, from mode and command that an amendment names
pub record Named (v : Move) (a : Amendment) : Type 0 where
  pub machine : v.machine ≡ a.machine
  pub from : v.from ≡ a.from
  pub command : v.command ≡ a.command

-- the standing move that is the same as v by machine, from mode and command: its number, and that no other is, or that none is
pub record Stood (vs : List Move) (places : List ℕ) (v : Move) (r : Option ℕ) : Type 0 where
  pub below : (n : ℕ) → r ≡ Some n → n < length vs
  pub stands : (n : ℕ) → r ≡ Some n → 0 < get_or places n 0
  pub same : (n : ℕ) → r ≡ Some n → is_same_move v (get_or vs n absent_move) ≡ true
  pub only : (n j : ℕ) → r ≡ Some n → j < length vs → (j ≡ n → ⊥) → is_same_move v (get_or vs j absent_move) ≡ false
  pub none : r ≡ None → (j : ℕ) → j < length vs → 0 < get_or places j 0 → is_same_move v (get_or vs j absent_move) ≡ false

-- machines and sent moves of a draft
pub record Drafted (x : Draft) (counts : Counts) (modes lives tops pairs commands owners : List ℕ) : Type 0 where
  pub held : Held x.sent counts tops lives
  pub modes-in : modes ≡ pad 32 x.sent.modes
  pub keyed : Keyed x.sent.moves pairs commands owners

-- Machines and moves have been read, and no amendment: the counts and the arrays hold them, and what is left of the file
-- decides the reply.
pub record Scanned (s : List ℕ) (counts : Counts) (modes lives tops pairs commands owners places : List ℕ) (at : ℕ) : Type 0 where
  pub read : Progress
  pub drafted : Drafted read.draft counts modes lives tops pairs commands owners
  pub untouched : read.draft.standing ≡ read.draft.sent.moves
  pub unamended : read.draft.amended ≡ 0
  pub places-in : places ≡ pad 250 read.places
  pub places-are : length read.places ≡ counts.moves
  pub stand : read.draft.standing ≡ map (move_there s) read.places
  pub positive : (v : ℕ) → v < length read.places → 0 < get_or read.places v 0
  pub started : 0 < counts.machines + counts.moves → 0 < at
  -- so where a record begins fits 16 bits
  pub near : at ≤ 6 * counts.machines + 24 * counts.moves
  pub bytes : (i : ℕ) → Fits w8 (byte s i)
  pub leads : parse s ≡ parse_from (347 - (counts.machines + counts.moves)) s at read

-- Amendments are read: where the record of each sent move begins, as amended, 0 for a withdrawn one.
pub record Amending (s : List ℕ) (counts : Counts) (modes lives tops pairs commands owners places : List ℕ) (amended at : ℕ)
    : Type 0 where
  pub read : Progress
  pub drafted : Drafted read.draft counts modes lives tops pairs commands owners
  pub amended-are : read.draft.amended ≡ amended
  pub few : amended ≤ 64
  pub long : length places ≡ 250
  pub left : read.places ≡ filter is_place places
  pub stand : read.draft.standing ≡ map (move_there s) read.places
  pub same : (v : ℕ) → v < counts.moves → 0 < get_or places v 0
      → is_same_move (get_or read.draft.sent.moves v absent_move) (move_there s (get_or places v 0)) ≡ true
  pub none-behind : (v : ℕ) → counts.moves ≤ v → get_or places v 0 ≡ 0
  pub some-move : 0 < amended → 0 < counts.moves
  -- what is read first is no machine and no move
  pub no-machine : amended ≡ 0 → word s (at + 2) ≡ 1 → ⊥
  pub no_move : amended ≡ 0 → word s (at + 2) ≡ 2 → ⊥
  pub started : 0 < counts.moves → 0 < at
  pub near : at ≤ 6 * counts.machines + 24 * counts.moves + 24 * amended
  pub bytes : (i : ℕ) → Fits w8 (byte s i)
  pub leads : parse s ≡ parse_from (347 - (counts.machines + counts.moves + amended)) s at read
