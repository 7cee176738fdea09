-- The loop that takes away what a goal does not allow: the masks after the goal's first i bytes.
-- Assumes nothing.
use Prim.Native.Nat.{ℕ, zero, suc, ◌+◌, ◌≤◌, ◌<◌, zero-le}
use mathlib.Core.Path.{◌≡◌, refl, sym, ap, ◌∙◌}
use mathlib.Core.List.{List, [], ◌∷◌}
use native.Mathlib.Numerals.{add-one}
use native.Mathlib.Omega.{arith}
use lib.ListN.{length, get_or, set, take, length-set}
use Rattle.sets.specs.Kept.Sets.{both}
use Rattle.joining.specs.Kept.Lent.{narrowed}

pub narrowed_none : (masks : List ℕ) → narrowed masks [] ≡ masks
unfolding narrowed
narrowed_none [] = refl
narrowed_none (mask ∷ masks) = refl

-- one more byte of the goal
narrowed-suc : (masks goal : List ℕ) (i : ℕ) → i < length goal → length goal ≤ length masks
    → set (narrowed masks (take i goal)) i (both (get_or (narrowed masks (take i goal)) i 0) (get_or goal i 0))
    ≡ narrowed masks (take (suc i) goal)
unfolding narrowed
narrowed-suc masks [] i l h = absurd (let f : ⊥ = omega arith in f)
narrowed-suc [] (b ∷ goal) i l h = absurd (let f : ⊥ = omega arith in f)
narrowed-suc (mask ∷ masks) (b ∷ goal) zero l h = ap (◌∷◌ (both mask b)) (sym (narrowed_none masks))
narrowed-suc (mask ∷ masks) (b ∷ goal) (suc i) l h =
    ap (◌∷◌ (both mask b)) (narrowed-suc masks goal i (omega arith) (omega arith))

pub record NarrowedUpto (masks goal : List ℕ) (i : ℕ) (now : List ℕ) : Type 0 where
  pub inside : i ≤ length goal
  pub size : length now ≡ length masks
  pub left : now ≡ narrowed masks (take i goal)

module _ {masks goal : List ℕ} where
  pub narrowed-upto-none : NarrowedUpto masks goal 0 masks
  narrowed-upto-none = record { inside = zero-le; size = refl; left = sym (narrowed_none masks) }

  pub narrowed-upto-next : length goal ≤ length masks → {i : ℕ} {now : List ℕ} → NarrowedUpto masks goal i now
      → i < length goal → NarrowedUpto masks goal (i + 1) (set now i (both (get_or now i 0) (get_or goal i 0)))
  narrowed-upto-next room {i} {now} n l =
      record {
        inside = omega arith;
        size = length-set now _ _ ∙ n.size;
        left = rw (n.left, add-one) (narrowed-suc masks goal i l room);
      }
