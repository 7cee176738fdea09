-- What an index says of its sheet: the counts, the modes, and the body of each move as it is found through the index.
-- What the reply of reading says of the parse.
-- Assumes nothing.
use Prim.Native.Nat.{ℕ, ◌+◌, ◌≤◌, ◌<◌}
use mathlib.Core.Path.{◌≡◌, refl, sym, ap, ◌∙◌}
use mathlib.Core.List.{List}
use native.Mathlib.Omega.{arith}
use lib.ListN.{length, get_or, take}
use lib.Seq.{get_or-take, length-take-le}
use Rattle.common.specs.Reply.{Reply, given, refused}
use Rattle.common.proofs.Pad.{length-pad}
use Rattle.common.proofs.Reply.{given-not-refused}
use Rattle.sheet.specs.declared.index.Sheet.{Sheet}
use Rattle.std.specs.Prelude.{Result, Ok, Err}
use Rattle.sheet.specs.declared.refusal.Refusal.{Refusal}
use Rattle.sheet.specs.Refusal.{number_of}
use Rattle.sheet.specs.Record.{byte, body_at}
use Rattle.sheet.specs.Model.{Model, machine_count, move_count, mode_count, move_at, move_of}
use Rattle.sheet.specs.Valid.{Valid, ValidMove}
use Rattle.sheet.specs.Parse.{Parsed, parse}
use Rattle.sheet.specs.Index.{index_of, modes_in, reading_of, index_reply}
use Rattle.sheet.specs.Kept.Indexed.{Indexes, Indexed, Listed}
use Rattle.sheet.proofs.Records.{body-byte}
use Rattle.sheet.proofs.Parsed.{Stands, parse-valid, parse-places, parse-stands}
use Rattle.sheet.proofs.Answers.{machines-in, moves-in, modes-in, place_in}

module _ {s : List ℕ} {x : Sheet} {m : Model} (i : Indexes s x m) where
  pub indexes-valid : Valid m
  indexes-valid = rw i.model (parse-valid s i.passes)

  pub indexes-machines : x.machines ≡ machine_count m
  indexes-machines = ap (λ y. y.machines) i.index ∙ rw i.model (machines-in i.parsed)

  pub indexes-moves : x.moves ≡ move_count m
  indexes-moves = ap (λ y. y.moves) i.index ∙ rw i.model (moves-in i.parsed)

  pub indexes-modes : (j : ℕ) → get_or x.modes j 0 ≡ mode_count m j
  indexes-modes j = ap (λ y. modes_in y j) i.index ∙ rw i.model (modes-in i.parsed j)

  pub indexes-array : length x.modes ≡ 32
  unfolding index_of
  indexes-array =
      ap (λ y. length y.modes) i.index
      ∙ length-pad 32 i.parsed.model.modes (parse-valid s i.passes).few-machines

  pub indexes-stands : (v : ℕ) → v < move_count m → Stands s (get_or x.places v 0) (move_at m v)
  indexes-stands v h =
      let e : get_or x.places v 0 ≡ get_or i.parsed.places v 0 =
      ap (λ y. get_or y.places v 0) i.index ∙ place_in i.parsed v in
      rw (e, i.model) (parse-stands s i.passes v (rw i.model at h))

  -- where the records begin, as the code lends it

  pub indexes-room : x.moves ≤ length x.places
  unfolding index_of
  indexes-room =
      let few = (parse-valid s i.passes).few-moves in
      let paired = parse-places s i.passes in
      let long = length-pad 250 i.parsed.places (omega (arith, few, paired)) in
      omega (arith, ap (λ y. length y.places) i.index, long, indexes-moves, indexes-valid.few-moves)

  pub indexes-lent : (v : ℕ) → v < move_count m → Stands s (get_or (take x.moves x.places) v 0) (move_at m v)
  indexes-lent v h = rw (get_or-take x.moves x.places v 0 (omega (arith, indexes-moves))) (indexes-stands v h)

  pub indexes-listed : Listed m s (take x.moves x.places)
  indexes-listed =
      record {
        one_each = length-take-le _ _ indexes-room ∙ indexes-moves;
        long = λ v h. (indexes-lent v h).long;
        each = λ v h. (indexes-lent v h).read;
      }

-- A move by the place where its record begins

module _ {m : Model} {file places : List ℕ} (l : Listed m file places) {v : ℕ} (h : v < length places) where
  pub listed-present : v < move_count m
  listed-present = rw (← l.one_each) h

  module _ {b : List ℕ} (e : b ≡ body_at file (get_or places v 0)) where
    pub listed-long : 3 < length b
    listed-long = rw e (l.long v listed-present)

    pub listed-move : move_of b ≡ move_at m v
    listed-move = ap move_of e ∙ l.each v listed-present

    pub listed-machine : byte b 0 ≡ (move_at m v).machine
    unfolding move_of
    listed-machine = ap (λ x. x.machine) listed-move

    pub listed-valid : Valid m → ValidMove m (move_of b)
    listed-valid valid = rw listed-move (valid.moves-valid v listed-present)

  -- the first byte of its body in the file is its machine
  pub listed-first : byte file (get_or places v 0 + 4) ≡ (move_at m v).machine
  listed-first =
      let long = l.long v listed-present in
      ap (byte file) (omega arith) ∙ body-byte file (get_or places v 0) (omega (arith, long)) 0 (omega (arith, long))
      ∙ listed-machine refl

-- The reply of reading a sheet, told by its case

module _ (s : List ℕ) (r : Result Sheet Refusal) (e : reading_of r ≡ index_reply (parse s)) where
  pub accepted-indexed : {x : Sheet} → r ≡ Ok x → Indexed s x
  accepted-indexed {x} a = go (parse s) refl (ap reading_of (sym a) ∙ e)
    where
      go : (p : Reply Parsed) → parse s ≡ p → given x ≡ index_reply p → Indexed s x
      go (given d) q w = (d.model, record { parsed = d; passes = q; index = cc; model = refl })
      go (refused number place) q w = absurd (given-not-refused w)

  pub refused-parse : {f : Refusal} → r ≡ Err f → parse s ≡ refused (number_of f.cause) f.place
  refused-parse {f} a = go (parse s) (ap reading_of (sym a) ∙ e)
    where
      go : (p : Reply Parsed) → refused (number_of f.cause) f.place ≡ index_reply p → p ≡ refused (number_of f.cause) f.place
      go (given d) w = absurd (given-not-refused (sym w))
      go (refused number at) w = cc
