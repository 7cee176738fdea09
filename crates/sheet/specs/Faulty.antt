-- "Why a call is turned down", 1 to 8 and 21, stated of the file's records: which files get which number, and at which place. All
-- records in front are right; of the first that is not, the lowest number counts.
use Rattle.std.specs.Prelude.{ℕ, suc, ◌+◌, ◌*◌, ◌≤◌, ◌<◌, ◌≡◌, ◌↔◌, ◌⊎◌, List, true, length}
use Rattle.common.specs.Reply.{refused}
use Rattle.sheet.specs.Record.{byte, word, part}
use Rattle.sheet.specs.Model.{Move, Model, machine_count, move_count, mode_count, is_live_mode, move_at, guard_at, move_of}
use Rattle.sheet.specs.Amend.{Amendment, replace, withdraw, Acts}
use Rattle.sheet.specs.Amend.{Draft, empty_draft, draft_machine, draft_move, draft_amended}
use Rattle.sheet.specs.Valid.{ValidGuard, ValidMachine}
use Rattle.sheet.specs.Parse.{parse}

module _ (m : Model) (v : Move) where
  -- not 6: its machine has both modes, which differ and are live
  pub record ModesRight : Type 0 where
    pub present : v.machine < machine_count m
    pub from-present : v.from < mode_count m v.machine
    pub to-present : v.to < mode_count m v.machine
    pub moves-on : v.from ≡ v.to → ⊥
    pub from-live : is_live_mode m v.machine v.from ≡ true
    pub to-live : is_live_mode m v.machine v.to ≡ true

  -- not 7: each need is right, and their machines rise
  pub record NeedsRight : Type 0 where
    pub each : (n : ℕ) → n < length v.guards → ValidGuard m v (guard_at v n)
    pub rise : (n : ℕ) → suc n < length v.guards → (guard_at v n).machine < (guard_at v (suc n)).machine

  -- not 8: a command, which no earlier move of that machine has from that mode
  pub record CommandRight : Type 0 where
    pub some : v.command ≡ 0 → ⊥
    pub new : (w : ℕ) → w < move_count m → (move_at m w).machine ≡ v.machine → (move_at m w).from ≡ v.from
        → (move_at m w).command ≡ v.command → ⊥

-- The record that begins at a place: two bytes for its length, two for its kind, then its body.
module _ (s : List ℕ) (at : ℕ) where
  abbrev pub Kind : ℕ → Type 0
  Kind kind = word s (at + 2) ≡ kind

  -- the move that its body writes
  abbrev pub written : Move
  written = move_of (part s (at + 4) (word s at))

  -- not 1: all of it is there
  abbrev pub Whole : Type 0
  Whole = at + 4 + word s at ≤ length s

  -- a move's body: of a move, or of one that replaces another
  abbrev pub Bodied : Type 0
  Bodied = Kind 2 ⊎ Kind 4

  -- not 2: a machine, a move or replacement with at most eight needs, an end, or a withdrawal, each of its length
  pub data Known : Type 0 where
    machine : Kind 1 → word s at ≡ 2 → Known
    bodied : Bodied → (needs : ℕ) → needs ≤ 8 → word s at ≡ 4 + 2 * needs → Known
    end : Kind 3 → word s at ≡ 0 → Known
    withdrawal : Kind 5 → word s at ≡ 3 → Known

  -- an amendment, and which one
  pub data Amending : Amendment → Type 0 where
    replacement : Kind 4 → Amending (replace written)
    withdrawal : Kind 5 → Amending (withdraw (byte s (at + 4)) (byte s (at + 5)) (byte s (at + 6)))

  -- not 5
  abbrev pub MachineRight : Type 0
  MachineRight = ValidMachine (byte s (at + 4)) (byte s (at + 5))

  -- behind records that say x
  module _ (x : Draft) where
    -- not 4: machines before moves, at least one, at most 32 and 250; an amendment may stand anywhere
    pub data InPlace : Type 0 where
      machine : Kind 1 → move_count x.sent ≡ 0 → machine_count x.sent < 32 → InPlace
      move : Kind 2 → 0 < machine_count x.sent → move_count x.sent < 250 → InPlace
      end : Kind 3 → 0 < machine_count x.sent → InPlace
      amendment : (a : Amendment) → Amending a → InPlace

    -- not 8: a command and, of a move, a new one
    pub record CommandFits : Type 0 where
      pub some : written.command ≡ 0 → ⊥
      pub new : Kind 2 → CommandRight x.sent written

    -- not 21: no move behind an amendment; at most 64 amendments, and each acts
    pub record Amendable : Type 0 where
      pub early : Kind 2 → x.amended ≡ 0
      pub room : (a : Amendment) → Amending a → x.amended < 64
      pub acts : (a : Amendment) → Amending a → (after : List Move) × Acts a x.standing after

    -- the lowest number of what is wrong with it
    pub data Faulty (n : ℕ) : Type 0 where
      cut_short : n ≡ 1 → (Whole → ⊥) → Faulty n
      unknown : n ≡ 2 → Whole → (Known → ⊥) → Faulty n
      misplaced : n ≡ 4 → Whole → Known → (InPlace → ⊥) → Faulty n
      bad-machine : n ≡ 5 → Kind 1 → Whole → Known → InPlace → (MachineRight → ⊥) → Faulty n
      bad-modes : n ≡ 6 → Bodied → Whole → Known → InPlace → (ModesRight x.sent written → ⊥) → Faulty n
      bad-needs : n ≡ 7 → Bodied → Whole → Known → InPlace → ModesRight x.sent written
          → (NeedsRight x.sent written → ⊥) → Faulty n
      bad-command : n ≡ 8 → Bodied → Whole → Known → InPlace → ModesRight x.sent written
          → NeedsRight x.sent written → (CommandFits → ⊥) → Faulty n
      unamendable : n ≡ 21 → Whole → Known → InPlace → (Kind 1 → MachineRight)
          → (Bodied → ModesRight x.sent written × NeedsRight x.sent written × CommandFits) → (Amendable → ⊥)
          → Faulty n

    -- nothing is
    pub record RecordRight : Type 0 where
      pub whole : Whole
      pub known : Known
      pub in_place : InPlace
      pub machine : Kind 1 → MachineRight
      pub move : Bodied → ModesRight x.sent written × NeedsRight x.sent written × CommandFits
      pub amendable : Amendable

module _ (s : List ℕ) where
  -- the records in front of a place, all of them right and none an end, say x
  pub data Front : ℕ → Draft → Type 0 where
    nothing : Front 0 empty_draft
    machine : {at : ℕ} {x : Draft} → Front at x → RecordRight s at x → Kind s at 1
        → Front (at + 4 + word s at) (draft_machine x (byte s (at + 4)) (byte s (at + 5)))
    move : {at : ℕ} {x : Draft} → Front at x → RecordRight s at x → Kind s at 2
        → Front (at + 4 + word s at) (draft_move x (written s at))
    amendment : {at : ℕ} {x : Draft} {after : List Move} (a : Amendment) → Front at x → RecordRight s at x
        → Amending s at a → Acts a x.standing after → Front (at + 4 + word s at) (draft_amended x after)

  -- the first record that is not right refuses the file, at its place; 3 is for what stands behind an end that is right
  pub data TurnedAway (n p : ℕ) : Type 0 where
    by-record : (x : Draft) → Front p x → Faulty s p x n → TurnedAway n p
    behind-end : (at : ℕ) (x : Draft) → Front at x → RecordRight s at x → Kind s at 3 → n ≡ 3 → p ≡ at + 4 → p < length s
        → TurnedAway n p

-- A file is refused with a number and a place exactly if it is turned away so.
abbrev pub RefusedExactly : Type 0
RefusedExactly = (s : List ℕ) (n p : ℕ) → (parse s ≡ refused n p) ↔ TurnedAway s n p
