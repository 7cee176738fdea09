-- What `writing` stores of a plan: the bound, the first record and the last two.
-- Assumes nothing.
use Prim.Native.Nat.{ℕ, ◌+◌, ◌/◌, ◌%◌, ◌≤◌}
use mathlib.Core.Path.{◌≡◌, refl, ap, ◌∙◌}
use mathlib.Core.List.{List, [], ◌++◌}
use native.Mathlib.Omega.{arith}
use lib.ListN.{length}
use Rattle.sheet.specs.Record.{two_bytes, record_of}
use Rattle.sheet.specs.Kept.Written.{written}
use Rattle.sheet.proofs.Written.{length-record_of}
use Rattle.sheet.proofs.Overwriting.{written_none, written-more, length-written}
use Rattle.sheet.proofs.WritingBytes.{header-written, record-written}
use Rattle.plan.specs.Bytes.{four_bytes}
use Rattle.plan.proofs.Bytes.{length-four_bytes}

pub bound-written : (s p q : List ℕ) (at bound : ℕ) → p ≡ written at (two_bytes (bound % 65536)) s → at + 4 ≤ length s
    → q ≡ written (at + 2) (two_bytes (bound / 65536)) p → q ≡ written at (four_bytes bound) s
unfolding four_bytes
bound-written s p q at bound first room second =
    header-written s p q at (bound % 65536) first room (bound / 65536) refl second

-- the kinds of the records, as the code says them
pub start-written : (s p q numbers : List ℕ) {kind : ℕ} → kind ≡ 16 → p ≡ written 0 (two_bytes (length numbers) ++ two_bytes kind) s
    → q ≡ written 4 numbers p → q ≡ written 0 (record_of 16 numbers) s
start-written s p q numbers k first second = record-written s p q numbers 0 16 4 (first ∙ rw k) second refl (omega arith)

pub end-written : (s p q t : List ℕ) (at bound : ℕ) {kind last : ℕ} → kind ≡ 18 → p ≡ written at (two_bytes 4 ++ two_bytes kind) s
    → q ≡ written (at + 4) (four_bytes bound) p → last ≡ 3 → t ≡ written (at + 8) (two_bytes 0 ++ two_bytes last) q → at + 12 ≤ length s
    → t ≡ written at (record_of 18 (four_bytes bound) ++ record_of 3 []) s
end-written s p q t at bound k first second l third room =
    let bytes = four_bytes bound in
    let four = length-four_bytes bound in
    let w18 = record-written s p q bytes at 18 (at + 4) (first ∙ rw (k, four)) second refl (omega arith) in
    let long : length q ≡ length s
    = ap length w18 ∙ length-written at (record_of 18 bytes) s (omega arith) (omega (arith, length-record_of 18 bytes)) in
    record-written q t t [] (at + 8) 3 (at + 12) (third ∙ rw l) (written_none (at + 12) t) (omega arith) (omega arith)
    ∙ rw w18
    (written-more at (record_of 18 bytes) s (omega arith) (record_of 3 []) (omega (arith, length-record_of 18 bytes)))
