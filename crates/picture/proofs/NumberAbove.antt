-- A number of a text that is below a limit and above all of a set.
-- Assumes nothing.
use Prim.Native.Nat.{ℕ, ◌+◌, ◌≤◌, ◌<◌}
use mathlib.Core.Path.{◌≡◌}
use mathlib.Core.List.{List}
use mathlib.Core.Bool.{Bool, true, false, ◌&&◌}
use native.Mathlib.Omega.{arith}
use borrow.Author.Tests.{eq-eqb, eqb-true, lt-ltb, ltb-true}
use lib.Dec.{eqb, ltb}
use lib.ListN.{length, drop}
use Rattle.common.proofs.Bools.{true-false, and_intro, and_left, and_right}
use Rattle.decimal.specs.Decimal.{decimal, read_number}
use Rattle.decimal.proofs.Exact.{read-written}
use Rattle.sets.specs.Kept.Sets.{lowered}
use Rattle.picture.specs.Kept.Matched.{Numbered, NumberRead}
use Rattle.picture.proofs.Spanning.{spans-number}

module _ (text : List ℕ) (at s n : ℕ) (few : n ≤ 64) where
  -- where no number is written at all
  pub number-unread : read_number (drop at text) ≡ 65536 → (j : ℕ) (rest : List ℕ) → Numbered text at s n j rest → ⊥
  number-unread e j rest w =
      let l = w.below in
      let number = read-written j (drop at text) rest (omega arith) w.stands w.ends in
      omega arith

  module _ {i : ℕ} (e : i ≡ read_number (drop at text)) where
    abbrev rises : Bool
    rises = ltb i n && eqb (lowered s i) 0

    same-number : (j : ℕ) (rest : List ℕ) → Numbered text at s n j rest → i ≡ j
    same-number j rest w =
        let l = w.below in
        let number = read-written j (drop at text) rest (omega arith) w.stands w.ends in
        omega arith

    pub number-none : rises ≡ false → (j : ℕ) (rest : List ℕ) → Numbered text at s n j rest → ⊥
    number-none f j rest w =
        true-false (rw (same-number j rest w) (and_intro (lt-ltb j n w.below) (eq-eqb (lowered s j) 0 w.above))) f

    module _ (t : rises ≡ true) where
      pub number_small : i < n
      number_small = ltb-true i n (and_left _ _ t)

      pub number-found : {width : ℕ} → at ≤ length text → width ≡ length (decimal i)
          → NumberRead text at s n (record { value = i; end = at + width })
      number-found inside w =
          let small = number_small in
          record {
            below = small;
            above = eqb-true (lowered s i) 0 (and_right (ltb i n) _ t);
            spans = rw w (spans-number inside e (omega arith));
            only = same-number;
          }
