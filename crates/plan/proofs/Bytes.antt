-- Four bytes, and a record of a plan: seen where it stands, and standing where it is seen. (Two bytes and records as
-- such are the sheet's, `Written`.)
-- Assumes nothing.
use Prim.Native.Nat.{ℕ, ◌+◌, ◌*◌, ◌<◌}
use mathlib.Core.Path.{◌≡◌, refl, sym, ap₂, ◌∙◌}
use mathlib.Core.List.{List, ◌++◌}
use mathlib.Core.Bool.{true}
use native.Mathlib.Omega.{arith}
use borrow.Author.Tests.{eqb-true, eq-eqb}
use lib.Dec.{eqb}
use lib.ListN.{length, drop, take-append-drop}
use lib.Seq.{drop-drop}
use Rattle.std.specs.Prelude.{Option, Some, None}
use Rattle.common.proofs.Bools.{true-false, and_intro, and_left, and_right}
use Rattle.common.proofs.Places.{Stands}
use Rattle.sheet.specs.declared.record.Record.{Record}
use Rattle.sheet.specs.Record.{whole}
use Rattle.sheet.specs.Record.{byte, record_at, part, two_bytes, record_of}
use Rattle.sheet.proofs.Records.{WholeAt, whole-at, whole_here}
use Rattle.sheet.proofs.Written.{record-read, record-back}
use Rattle.plan.specs.Bytes.{four_bytes}
use Rattle.plan.specs.Reading.{is_whole, has_record}

pub length-four_bytes : (n : ℕ) → length (four_bytes n) ≡ 4
unfolding four_bytes two_bytes
length-four_bytes n = refl

-- the number that four bytes write, low byte first
abbrev pub number_in : List ℕ → ℕ
number_in s = byte s 0 + 256 * (byte s 1 + 256 * (byte s 2 + 256 * byte s 3))

pub four_bytes-read : (n : ℕ) → n < 4294967296 → number_in (four_bytes n) ≡ n
unfolding four_bytes two_bytes
four_bytes-read n h = omega arith

module _ {s : List ℕ} {at : ℕ} where
  pub record-shown : (kind : ℕ) (body : List ℕ) → Stands s at (record_of kind body) → {n : ℕ} → length body ≡ n
      → n < 65536 → kind < 65536 → has_record s at kind n ≡ true
  unfolding has_record
  record-shown kind body w {n} e h k =
      rw (record-read kind body w (omega arith) k) (and_intro (eq-eqb kind kind refl) (eq-eqb (length body) n e))

  -- what a record that is seen says of the bytes at its place
  pub shown-whole : (kind n : ℕ) → has_record s at kind n ≡ true → WholeAt s at kind (at + 4) n
  unfolding has_record
  shown-whole kind n h = go (record_at s at) refl h
    where
      go : (r : Option Record) → record_at s at ≡ r → is_whole r kind n ≡ true → WholeAt s at kind (at + 4) n
      go (Some x) e t =
          let w = whole-at s at e in
          let k : x.kind ≡ kind = eqb-true _ _ (and_left _ _ t) in
          let l : x.len ≡ n = eqb-true _ _ (and_right (eqb x.kind kind) _ t) in
          record {
            starts = refl;
            length-word = sym l ∙ w.length-word;
            kind-word = sym k ∙ w.kind-word;
            within = omega (arith, w.starts, w.within);
          }
      go None e t = absurd (true-false t refl)

-- In a file of bytes a record that is seen stands there

pub record-rebuilt : (s : List ℕ) → ((i : ℕ) → byte s i < 256) → (at kind n next : ℕ) → has_record s at kind n ≡ true
    → next ≡ at + 4 + n → drop at s ≡ record_of kind (part s (at + 4) n) ++ drop next s
record-rebuilt s bytes at kind n next h e =
    let w = shown-whole kind n h in
    let here : record_at s at ≡ whole kind (at + 4) n
    = whole_here s at (omega (arith, w.within, w.length-word)) ∙ rw (← w.kind-word, ← w.length-word) in
    let behind : at + (4 + n) ≡ next = omega arith in
    sym (take-append-drop (4 + n) (drop at s))
    ∙ ap₂ ◌++◌ (record-back s bytes at here) (drop-drop (4 + n) at s ∙ rw behind)
