-- The machines of a group as the label of its node: how long it is.
-- Assumes nothing.
use Prim.Native.Nat.{ℕ, ◌+◌}
use mathlib.Core.Path.{◌≡◌, refl}
use mathlib.Core.List.{List, [], ◌∷◌, map}
use native.Mathlib.Omega.{arith}
use lib.ListN.{length, length-append}
use Rattle.common.specs.Lists.{sum}
use Rattle.decimal.specs.Decimal.{decimal}
use Rattle.picture.specs.Text.{labels}

-- a machine in a label
abbrev pub label_length : ℕ → ℕ
label_length i = 1 + length (decimal i)

pub labels_length : (first : ℕ) (is : List ℕ) → length (labels first is) ≡ sum (map label_length is)
unfolding labels sum
labels_length first [] = refl
labels_length first (i ∷ is) = omega (arith, length-append (decimal i) (labels 32 is), labels_length 32 is)
