-- What `writing` stores, one byte after the other: two bytes, a record's header, a copy; and a record behind its header.
-- Assumes nothing.
use Prim.Native.Nat.{ℕ, ◌+◌, ◌/◌, ◌%◌, ◌≤◌, ◌<◌, zero-le}
use mathlib.Core.Path.{◌≡◌, refl, ◌∙◌}
use mathlib.Core.List.{List, [], ◌∷◌, ◌++◌, append_assoc}
use native.Mathlib.Nat.{le_antisymm}
use native.Mathlib.Numerals.{add-one}
use native.Mathlib.Omega.{arith}
use lib.ListN.{length, get_or, set, take, length-append, length-set}
use lib.Seq.{take-length, sets-eq, paste, paste-zero, paste-suc}
use Rattle.sheet.specs.Record.{two_bytes, record_of}
use Rattle.sheet.specs.Kept.Written.{written}
use Rattle.sheet.proofs.Written.{length-two_bytes}
use Rattle.sheet.proofs.Overwriting.{written-more}

pub two-written : (at n : ℕ) (s : List ℕ) → at + 2 ≤ length s
    → set (set s at (n % 256)) (at + 1) (n / 256 % 256) ≡ written at (two_bytes n) s
unfolding written two_bytes
two-written at n s h =
    rw (add-one at) (sets-eq (n % 256 ∷ n / 256 % 256 ∷ []) s at h ∙ append_assoc (take at s) _ _)

module _ (s p q : List ℕ) (at a : ℕ) (first : p ≡ written at (two_bytes a) s) (room : at + 4 ≤ length s) where
  pub header-written : {b : ℕ} (kind : ℕ) → b ≡ kind → q ≡ written (at + 2) (two_bytes b) p
      → q ≡ written at (two_bytes a ++ two_bytes kind) s
  header-written kind same second =
      second ∙ rw (first, same)
      (written-more at (two_bytes a) s (omega arith) (two_bytes kind) (omega (arith, length-two_bytes a)))

-- a record, its body behind its header
pub record-written : (s p q body : List ℕ) (at kind next : ℕ)
    → p ≡ written at (two_bytes (length body) ++ two_bytes kind) s → q ≡ written next body p → next ≡ at + 4
    → at ≤ length s → q ≡ written at (record_of kind body) s
unfolding record_of
record-written s p q body at kind next first second e room =
    let header = two_bytes (length body) ++ two_bytes kind in
    let four : length header ≡ 4
    = omega (
      arith,
      length-append (two_bytes (length body)) (two_bytes kind),
      length-two_bytes (length body),
      length-two_bytes kind,
    ) in
    second ∙ rw first (written-more at header s room body (omega arith))

-- The first i of some numbers, copied to a place

pub record CopiedTo (s : List ℕ) (at : ℕ) (numbers : List ℕ) (i : ℕ) (now : List ℕ) : Type 0 where
  pub inside : i ≤ length numbers
  pub size : length now ≡ length s
  pub copied : now ≡ paste s at numbers i

module _ {s numbers : List ℕ} {at : ℕ} (room : at + length numbers ≤ length s) where
  pub copied-to-none : CopiedTo s at numbers 0 s
  copied-to-none = record { inside = zero-le; size = refl; copied = paste-zero s at numbers }

  pub copied-to-next : {i : ℕ} {now : List ℕ} → CopiedTo s at numbers i now → i < length numbers
      → CopiedTo s at numbers (i + 1) (set now (at + i) (get_or numbers i 0))
  copied-to-next {i} {now} c l =
      record {
        inside = omega arith;
        size = length-set now _ _ ∙ c.size;
        copied = rw (c.copied, add-one) (paste-suc s at numbers i 0 (omega arith) l);
      }

  pub copied-to-end : {i : ℕ} {now : List ℕ} → CopiedTo s at numbers i now → length numbers ≤ i
      → now ≡ written at numbers s
  unfolding written
  copied-to-end {i} c l =
      let e : i ≡ length numbers = le_antisymm c.inside l in
      c.copied ∙ rw (e, take-length numbers) (append_assoc (take at s) numbers _)
