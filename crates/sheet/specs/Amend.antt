-- Request L8, "Fitters' amendments": what the tail of a sheet changes.
use Rattle.std.specs.Prelude.{ℕ, suc, ◌≡◌, List, [], ◌∷◌, ◌++◌, cond, eqb, take, drop}
use Rattle.common.specs.Lists.{position}
use Rattle.sheet.specs.Record.{byte}
use Rattle.sheet.specs.Model.{Move, Model, empty_model, move_of, is_same_move, with_machine, with_move, with_moves}

-- kind 4: a move in the place of the standing one with its machine, from mode and command; kind 5: that one is withdrawn
pub data Amendment : Type 0 where
  replace : Move → Amendment
  withdraw : (machine from command : ℕ) → Amendment

-- the amendment that a body writes
unfoldable pub amendment_of : ℕ → List ℕ → Amendment
amendment_of kind body =
    cond (eqb kind 4) (replace (move_of body)) (withdraw (byte body 0) (byte body 1) (byte body 2))

-- a move with the machine, from mode and command that an amendment names
abbrev pub named : Amendment → Move
named (replace v) = v
named (withdraw machine from command) =
    record { machine = machine; from = from; to = 0; command = command; guards = [] }

-- what an amendment puts in the place of the move that it names
abbrev pub instead : {A : Type 0} → Amendment → A → List A
instead (replace v) x = x ∷ []
instead (withdraw machine from command) x = []

-- the number of the standing move that an amendment names, or how many stand where none is so named
unfoldable pub standing_at : List Move → Amendment → ℕ
standing_at moves a = position (is_same_move (named a)) moves

-- a list with others in the place of the element at x; those behind close up
unfoldable pub exchanged : {A : Type 0} → ℕ → List A → List A → List A
exchanged x new xs = take x xs ++ (new ++ drop (suc x) xs)

-- What the records so far say: the machines, and the moves as they were sent; the moves that stand; how many amendments
-- there were. Withdrawn moves are among those sent.
pub record Draft : Type 0 where
  pub sent : Model
  pub standing : List Move
  pub amended : ℕ

abbrev pub empty_draft : Draft
empty_draft = record { sent = empty_model; standing = []; amended = 0 }

-- a draft and one record more
abbrev pub draft_machine : Draft → ℕ → ℕ → Draft
draft_machine x modes live =
    record { sent = with_machine x.sent modes live; standing = x.standing; amended = x.amended }

abbrev pub draft_move : Draft → Move → Draft
draft_move x v = record { sent = with_move x.sent v; standing = x.standing ++ (v ∷ []); amended = x.amended }

abbrev pub draft_amended : Draft → List Move → Draft
draft_amended x moves = record { sent = x.sent; standing = moves; amended = suc x.amended }

-- the moves that stand after an amendment
unfoldable pub amend : List Move → Amendment → List Move
amend moves a = exchanged (standing_at moves a) (instead a (named a)) moves

-- the sheet that a draft says: its machines, with the moves that stand
abbrev pub amended_model : Draft → Model
amended_model x = with_moves x.sent x.standing

-- One amendment in words: among those that stand was a move with that machine, from mode and command; what the amendment
-- puts there stands in its place now, between those before it and those behind it.
pub record Acts (a : Amendment) (moves after : List Move) : Type 0 where
  pub before : List Move
  pub old : Move
  pub behind : List Move
  pub stood : moves ≡ before ++ (old ∷ behind)
  pub machine : (named a).machine ≡ old.machine
  pub from : (named a).from ≡ old.from
  pub command : (named a).command ≡ old.command
  pub stands : after ≡ before ++ (instead a (named a) ++ behind)

-- amendments in words, one after the other
pub data Amends (sent : List Move) : List Amendment → List Move → Type 0 where
  none : Amends sent [] sent
  more : {changes : List Amendment} {moves after : List Move} (a : Amendment) → Amends sent changes moves
      → Acts a moves after → Amends sent (changes ++ (a ∷ [])) after
