-- A list of sets after one of them was joined with another set.
-- Assumes nothing.
use Prim.Native.Nat.{ℕ, ◌<◌}
use mathlib.Core.Path.{◌≡◌, sym}
use mathlib.Core.List.{List}
use mathlib.Core.Bool.{◌&&◌, ◌||◌, or-false}
use borrow.Author.Tests.{eqb-true, eqb-false}
use lib.Dec.{eqb}
use lib.ListN.{length, get_or, set}
use lib.Seq.{get_or-set_same, get_or-set_other}
use Rattle.common.specs.Bits.{bit}
use Rattle.common.proofs.Bools.{by_cases}
use Rattle.sets.specs.Kept.Sets.{union}
use Rattle.sets.proofs.Laws.{bit-union}

pub bit-joined : (sets : List ℕ) (k s i j : ℕ) → k < length sets
    → bit (get_or (set sets k (union (get_or sets k 0) s)) i 0) j ≡ (bit (get_or sets i 0) j || (eqb k i && bit s j))
bit-joined sets k s i j h =
    by_cases (eqb k i)
    (λ t. rw (t, ← eqb-true k i t, get_or-set_same sets k (union (get_or sets k 0) s) 0 h, bit-union))
    (λ f. rw (f, get_or-set_other sets k i _ 0 (λ e. eqb-false k i f (sym e))) (sym (or-false _)))
