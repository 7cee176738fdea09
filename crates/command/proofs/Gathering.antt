-- Four lists laid into the array of a question's facts, side by side. Assumes nothing.
use Prim.Native.Nat.{ℕ, ◌+◌, ◌≤◌, ◌<◌, zero-le}
use mathlib.Core.Path.{◌≡◌, refl, sym, ap, ◌∙◌}
use mathlib.Core.List.{List, ◌++◌, append_assoc, append-nil}
use native.Mathlib.Omega.{arith}
use lib.ListN.{length, get_or, replicate, length-append, get_or-append, drop_of_length-le}
use lib.Seq.{get_or-drop, take_at, drop_at, take-append-le}
use Rattle.sheet.specs.Record.{part}
use Rattle.sheet.specs.Kept.Written.{written}
use Rattle.sheet.proofs.Pieces.{Puts, puts_then}
use Rattle.command.specs.Kept.Question.{numbers_in, weights_in, size_in, present_in}

module _ (numbers weights sizes present : List ℕ)
    (long : (length numbers ≡ 32) × (length weights ≡ 32) × (length sizes ≡ 32) × (length present ≡ 32)) where
  abbrev all : List ℕ
  all = numbers ++ weights ++ sizes ++ present

  all-long : length all ≡ 128
  all-long =
      omega (
        arith,
        long,
        length-append (numbers ++ weights ++ sizes) present,
        length-append (numbers ++ weights) sizes,
        length-append numbers weights,
      )

  laid : {a b c d : List ℕ} → a ≡ written 0 numbers (replicate 128 0) → b ≡ written 32 weights a → c ≡ written 64 sizes b
      → d ≡ written 96 present c → d ≡ all
  unfolding written
  laid {a} {b} {c} ea eb ec ed =
      let blank : List ℕ = replicate 128 0 in
      let one : Puts blank 0 numbers 32 a = (omega (arith, long), ea) in
      let two : Puts a 32 weights 64 b = (omega (arith, long), eb) in
      let three : Puts b 64 sizes 96 c = (omega (arith, long), ec) in
      let both = puts_then blank 0 numbers weights zero-le one two in
      let most = puts_then blank 0 (numbers ++ weights) sizes zero-le both three in
      let every = puts_then blank 0 (numbers ++ weights ++ sizes) present {end = 128} zero-le most (omega (arith, long), ed) in
      let past : length blank ≤ 0 + length all = omega (arith, all-long) in
      every.1 ∙ rw (drop_of_length-le blank past) (append-nil all)

  pub gathered : {a b c d : List ℕ} → a ≡ written 0 numbers (replicate 128 0) → b ≡ written 32 weights a → c ≡ written 64 sizes b
      → d ≡ written 96 present c → ((n : ℕ) → n ≤ 32 → numbers_in d n ≡ numbers_in numbers n) × (weights_in d ≡ weights)
      × ((k : ℕ) → k < 32 → size_in d k ≡ get_or sizes k 0) × ((k : ℕ) → k < 32 → present_in d k ≡ get_or present k 0)
  unfolding numbers_in weights_in size_in present_in part
  gathered {d = d} ea eb ec ed =
      let third : d ≡ numbers ++ weights ++ (sizes ++ present) = laid ea eb ec ed ∙ append_assoc (numbers ++ weights) sizes present in
      let first : d ≡ numbers ++ (weights ++ (sizes ++ present)) = third ∙ append_assoc numbers weights (sizes ++ present) in (
        λ n h. rw first (take-append-le n numbers _ (omega (arith, long))),
        rw (first, drop_at numbers (weights ++ (sizes ++ present)) 32 (omega (arith, long))) (take_at weights _ 32 (omega (arith, long))),
        λ k h. sym (get_or-drop 64 d k 0) ∙ rw (third, drop_at (numbers ++ weights) (sizes ++ present) 64 (omega (arith, long, length-append numbers weights)))
            (get_or-append sizes present 0 k (omega (arith, long))),
        λ k h. sym (get_or-drop 96 d k 0) ∙ rw (
          laid ea eb ec ed,
          drop_at (numbers ++ weights ++ sizes) present 96
              (omega (arith, long, length-append (numbers ++ weights) sizes, length-append numbers weights)),
        ) refl,
      )

-- a byte of the facts, read at a number that was widened
pub read_at : (facts : List ℕ) (at k : ℕ) {w r : ℕ} → w ≡ k → r ≡ get_or facts (at + w) 0 → r ≡ get_or facts (at + k) 0
read_at facts at k e f = f ∙ ap (λ i. get_or facts (at + i) 0) e
