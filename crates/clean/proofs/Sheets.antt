-- The parts of a sheet that was read, as the code lends them, are its clean sheet.
-- Assumes nothing.
use Prim.Native.Nat.{ℕ, ◌+◌, ◌≤◌, ◌<◌}
use mathlib.Core.Path.{◌≡◌, refl, sym, ap, ap₂, ◌∙◌}
use mathlib.Core.List.{List, [], ◌++◌, flat_map}
use native.Mathlib.Omega.{arith}
use borrow.Author.Tests.{ltb-true, ltb-false}
use lib.Dec.{ltb}
use lib.ListN.{length, get_or, take}
use lib.Seq.{take_at}
use Rattle.common.specs.Lists.{up_to, pad}
use Rattle.common.specs.Reply.{refused, and_then, fitted}
use Rattle.common.proofs.Bools.{by_cases}
use Rattle.common.proofs.Members.{up_to-below}
use Rattle.common.proofs.Pad.{length-pad}
use Rattle.common.proofs.Sums.{flat_map-cong}
use Rattle.sheet.specs.declared.index.Sheet.{Sheet}
use Rattle.sheet.specs.Record.{word, body_at, record_of}
use Rattle.sheet.specs.Model.{Model, move_count, move_at}
use Rattle.sheet.specs.Parse.{parse}
use Rattle.sheet.specs.Write.{machine_body, move_body, machine_records, move_records, sheet_bytes}
use Rattle.sheet.specs.Index.{index_of}
use Rattle.sheet.specs.Kept.Indexed.{Indexes}
use Rattle.sheet.proofs.Bodies.{move-body-back}
use Rattle.sheet.proofs.Fits.{MoveSize}
use Rattle.sheet.proofs.Indexed.{indexes-valid, indexes-machines, indexes-listed, indexes-lent}
use Rattle.sheet.proofs.Records.{cut_short, body-none}
use Rattle.clean.specs.Clean.{clean_reply}
use Rattle.clean.specs.Kept.{machine_by, move_by, machines_by, moves_by, clean_by, Lent}

-- a record with a body is whole
whole-body : (s : List ℕ) (at : ℕ) → 4 ≤ length (body_at s at) → at + 4 + word s at ≤ length s
whole-body s at long =
    by_cases (ltb (length s) (at + 4 + word s at))
    (λ t.
    let none = body-none s at refl (cut_short s at (ltb-true _ _ t)) in
    absurd (let f : ⊥ = omega (arith, ap length none) in f))
    (λ f. ltb-false _ _ f)

-- a list at the front of an array
module _ (xs : List ℕ) {k n : ℕ} {array : List ℕ} (e : array ≡ pad k xs) (few : length xs ≤ k)
    (count : n ≡ length xs) where
  pub front-inside : n ≤ length array
  front-inside = omega (arith, ap length e, length-pad k xs few)

  pub front-is : take n array ≡ xs
  unfolding pad
  front-is = rw e (take_at xs _ n (sym count))

module _ {s : List ℕ} {x : Sheet} {m : Model} (i : Indexes s x m) where
  abbrev modes : List ℕ
  modes = take x.machines x.modes

  abbrev live : List ℕ
  live = take x.machines x.live

  abbrev places : List ℕ
  places = take x.moves x.places

  -- the arrays

  modes-array : x.modes ≡ pad 32 m.modes
  unfolding index_of
  modes-array = ap (λ y. y.modes) i.index ∙ rw i.model

  live-array : x.live ≡ pad 32 m.live
  unfolding index_of
  live-array = ap (λ y. y.live) i.index ∙ rw i.model

  few-live : length m.live ≤ 32
  few-live = omega (arith, (indexes-valid i).same_length, (indexes-valid i).few-machines)

  live-count : x.machines ≡ length m.live
  live-count = indexes-machines i ∙ sym (indexes-valid i).same_length

  pub modes-inside : x.machines ≤ length x.modes
  modes-inside = front-inside m.modes modes-array (indexes-valid i).few-machines (indexes-machines i)

  pub live_inside : x.machines ≤ length x.live
  live_inside = front-inside m.live live-array few-live live-count

  modes-are : modes ≡ m.modes
  modes-are = front-is m.modes modes-array (indexes-valid i).few-machines (indexes-machines i)

  live-are : live ≡ m.live
  live-are = front-is m.live live-array few-live live-count

  -- the moves

  pub sheet-lent : Lent s modes live places
  sheet-lent =
      let one_each = (indexes-listed i).one_each in
      record {
        few-machines = rw modes-are (indexes-valid i).few-machines;
        same_length = rw (modes-are, live-are) (indexes-valid i).same_length;
        moves = record {
          few = omega (arith, one_each, (indexes-valid i).few-moves);
          whole = λ v h. whole-body s _ (indexes-lent i v (rw (← one_each) h)).long;
          short = λ v h. (indexes-lent i v (rw (← one_each) h)).short;
        };
      }

  body_is : (v : ℕ) → v < move_count m → body_at s (get_or places v 0) ≡ move_body (move_at m v)
  body_is v h =
      let stands = indexes-lent i v h in
      let size : MoveSize (length (body_at s (get_or places v 0))) =
      record { long = stands.long; short = stands.short; even = stands.even } in
      sym (move-body-back (body_at s (get_or places v 0)) size) ∙ ap move_body stands.read

  moves-are : moves_by s places ≡ move_records m
  unfolding move_by
  moves-are =
      ap (λ n. flat_map (move_by s places) (up_to n)) (indexes-listed i).one_each
      ∙ flat_map-cong _ _ (up_to (move_count m)) (λ v h. ap (record_of 2) (body_is v (up_to-below (move_count m) h)))

  machines-are : machines_by modes live ≡ machine_records m
  unfolding machine_by machine_body
  machines-are = rw (modes-are, live-are)

  pub clean-read : (room : ℕ) → clean_reply s room ≡ fitted (clean_by s modes live places) room
  unfolding clean_reply and_then clean_by sheet_bytes
  clean-read room =
      rw (i.passes, ← i.model)
      (ap₂ (λ a b. fitted (a ++ b ++ record_of 3 []) room) (sym machines-are) (sym moves-are))

pub clean-unread : (s : List ℕ) (room : ℕ) {n p : ℕ} → parse s ≡ refused n p → clean_reply s room ≡ refused n p
unfolding clean_reply and_then
clean-unread s room e = rw e
