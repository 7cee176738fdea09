-- Loops that fill an array from the front with f of each place, zeros behind what they have written.
-- Assumes nothing.
use Prim.Native.Nat.{ℕ, ◌+◌, ◌<◌}
use mathlib.Core.Path.{◌≡◌, ◌∙◌}
use mathlib.Core.List.{List, map, map-append}
use native.Mathlib.Numerals.{add-one}
use lib.ListN.{set}
use Rattle.common.specs.Lists.{up_to, pad}
use Rattle.common.proofs.Members.{length-map-up_to}
use Rattle.sheet.proofs.Arrays.{fills}

pub fills-map : (n : ℕ) (f : ℕ → ℕ) {i x : ℕ} {r : List ℕ} → r ≡ pad n (map f (up_to i)) → i < n → x ≡ f i
    → set r i x ≡ pad n (map f (up_to (i + 1)))
unfolding up_to
fills-map n f {i} e h q = fills n (map f (up_to i)) _ e (length-map-up_to f i) h ∙ rw (add-one, map-append, q)
