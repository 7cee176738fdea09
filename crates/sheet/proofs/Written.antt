-- Numbers and records as they are written, read back from the place where they stand.
-- (`between xs piece ys` says that a piece stands in `xs ++ piece ++ ys`.)
-- Assumes nothing.
use Prim.Native.Nat.{ℕ, suc, ◌+◌, ◌≤◌, ◌<◌}
use mathlib.Core.Path.{◌≡◌, refl, sym, ap, ap₂, ◌∙◌}
use mathlib.Core.List.{List, [], ◌∷◌, ◌++◌}
use native.Mathlib.Numerals.{add-one}
use native.Mathlib.Omega.{arith}
use lib.ListN.{length, take, drop}
use lib.Seq.{drop-cons, drop-drop, take-add}
use Rattle.common.proofs.Places.{Stands, stands-moved, stands-left, stands-right, stands-fits, stands_at, stands-taken}
use Rattle.sheet.specs.Record.{whole}
use Rattle.sheet.specs.Record.{byte, word, record_at, part, two_bytes, record_of}
use Rattle.sheet.proofs.Records.{whole_here, whole-at, part_length}

pub length-two_bytes : (n : ℕ) → length (two_bytes n) ≡ 2
unfolding two_bytes
length-two_bytes n = refl

pub length-record_of : (kind : ℕ) (body : List ℕ) → length (record_of kind body) ≡ 4 + length body
unfolding record_of two_bytes
length-record_of kind body = omega arith

-- two bytes give the number back
pub word-two_bytes : {s : List ℕ} {at : ℕ} (n : ℕ) → Stands s at (two_bytes n) → n < 65536 → word s at ≡ n
unfolding word two_bytes
word-two_bytes {s} {at} n w h =
    omega (
      arith,
      stands_at w 0 at 0 (omega arith) (omega arith),
      stands_at w 1 (at + 1) 0 (omega arith) (omega arith),
    )

-- A record: its length, its kind and its body

module _ {s : List ℕ} {at : ℕ} (kind : ℕ) (body : List ℕ) (w : Stands s at (record_of kind body)) where
  stands-length : Stands s at (two_bytes (length body))
  unfolding record_of
  stands-length = stands-left (two_bytes (length body)) (two_bytes kind) (stands-left _ body w)

  stands-kind : Stands s (at + 2) (two_bytes kind)
  unfolding record_of
  stands-kind =
      stands-moved (stands-right (two_bytes (length body)) (two_bytes kind) (stands-left _ body w))
      (ap (λ i. at + i) (length-two_bytes (length body)))

  pub stands-body : Stands s (at + 4) body
  unfolding record_of two_bytes
  stands-body = stands-right (two_bytes (length body) ++ two_bytes kind) body w

  pub body-read : part s (at + 4) (length body) ≡ body
  unfolding part
  body-read = stands-taken stands-body

  pub record-read : length body < 65536 → kind < 65536 → record_at s at ≡ whole kind (at + 4) (length body)
  record-read h k =
      let len = word-two_bytes (length body) stands-length h in
      let fits : at + 4 + length body ≤ length s = omega (arith, stands-fits w, length-record_of kind body) in
      whole_here s at (rw len fits) ∙ rw (len, word-two_bytes kind stands-kind k)

-- And back: the bytes of a file where a whole record is read are that record, written

module _ (s : List ℕ) (bytes : (i : ℕ) → byte s i < 256) where
  pub two_bytes-word : (i : ℕ) → two_bytes (word s i) ≡ byte s i ∷ byte s (i + 1) ∷ []
  unfolding two_bytes word
  two_bytes-word i =
      let a = bytes i in
      let b = bytes (i + 1) in
      ap₂ (λ x y. x ∷ y ∷ []) (omega arith) (omega arith)

  pub two-taken : (i : ℕ) → i + 2 ≤ length s → take 2 (drop i s) ≡ two_bytes (word s i)
  two-taken i h =
      rw (drop-cons s i 0 (omega arith), drop-cons s (suc i) 0 (omega arith)) (rw (← add-one i) (sym (two_bytes-word i)))

  pub record-back : (at : ℕ) {kind len : ℕ} → record_at s at ≡ whole kind (at + 4) len
      → take (4 + len) (drop at s) ≡ record_of kind (part s (at + 4) len)
  unfolding record_of part
  record-back at {kind} {len} w =
      let h = whole-at s at w in
      let first : take 2 (drop at s) ≡ two_bytes len =
      two-taken at (omega (arith, h.within)) ∙ ap two_bytes (sym h.length-word) in
      let second : take 2 (drop 2 (drop at s)) ≡ two_bytes kind =
      ap (take 2) (drop-drop 2 at s) ∙ two-taken (at + 2) (omega (arith, h.within))
      ∙ ap two_bytes (sym h.kind-word) in
      take-add 4 len (drop at s)
      ∙ ap₂ ◌++◌
      (take-add 2 2 (drop at s) ∙ ap₂ ◌++◌ (first ∙ ap two_bytes (sym (part_length s (at + 4) len h.within))) second)
      (ap (take len) (drop-drop 4 at s))

  -- the file up to behind a record is the file up to it, and the record
  pub record-taken : (at : ℕ) {kind start len : ℕ} → record_at s at ≡ whole kind start len
      → take (start + len) s ≡ take at s ++ record_of kind (part s start len)
  record-taken at {kind} {start} {len} w =
      let e = (whole-at s at w).starts in
      let v : record_at s at ≡ whole kind (at + 4) len = rw e at w in
      let k : at + 4 + len ≡ at + (4 + len) = omega arith in
      rw (e, k) (take-add at (4 + len) s ∙ ap (λ l. take at s ++ l) (record-back at v))
