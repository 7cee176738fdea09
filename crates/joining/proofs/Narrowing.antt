-- Masks that are narrowed by each goal in turn, from the full byte: what all of the goals allow. Assumes nothing.
use Prim.Native.Nat.{ℕ, zero, suc, ◌^◌, ◌≤◌, ◌<◌}
use mathlib.Core.Path.{◌≡◌, refl, sym, ap, ◌∙◌}
use mathlib.Core.List.{List, [], ◌∷◌}
use mathlib.Core.Bool.{cond, ◌&&◌, and-true, and_assoc}
use native.Mathlib.Nat.{le_refl}
use native.Mathlib.Omega.{arith}
use borrow.Author.Tests.{ltb-true, ltb-false}
use lib.Bits.{and_zero_l, and_le_l}
use lib.Dec.{ltb}
use lib.ListN.{length, get_or, replicate, get_or-replicate}
use Rattle.common.specs.Bits.{bit}
use Rattle.common.specs.Lists.{up_to, all, sum}
use Rattle.common.proofs.Bits.{bit-full, worths-make}
use Rattle.common.proofs.Bools.{by_cases}
use Rattle.common.proofs.Lists.{map-cong}
use Rattle.common.proofs.Members.{up_to-below}
use Rattle.sets.specs.Kept.Sets.{both}
use Rattle.sets.proofs.Laws.{bit-both}
use Rattle.command.specs.Goal.{wished}
use Rattle.joining.specs.Join.{Goals, shared_modes}
use Rattle.joining.specs.Kept.Lent.{narrowed, narrowed_by}

-- the mask of machine i after one goal: one that the goal reaches, and one past its end
narrowed-within : (masks goal : List ℕ) (i : ℕ) → i < length goal
    → get_or (narrowed masks goal) i 0 ≡ both (get_or masks i 0) (get_or goal i 0)
unfolding narrowed both
narrowed-within masks [] i h = absurd (let f : ⊥ = omega arith in f)
narrowed-within [] (b ∷ goal) i h = sym (and_zero_l (get_or (b ∷ goal) i 0))
narrowed-within (mask ∷ masks) (b ∷ goal) zero h = refl
narrowed-within (mask ∷ masks) (b ∷ goal) (suc i) h = narrowed-within masks goal i (omega arith)

narrowed-past : (masks goal : List ℕ) (i : ℕ) → length goal ≤ i → get_or (narrowed masks goal) i 0 ≡ get_or masks i 0
unfolding narrowed
narrowed-past [] goal i h = refl
narrowed-past (mask ∷ masks) [] i h = refl
narrowed-past (mask ∷ masks) (b ∷ goal) zero h = absurd (let f : ⊥ = omega arith in f)
narrowed-past (mask ∷ masks) (b ∷ goal) (suc i) h = narrowed-past masks goal i (omega arith)

-- it keeps the modes that the goal allows, and is not greater than it was
bit-narrowed : (masks goal : List ℕ) (i mode : ℕ) → mode < 8
    → bit (get_or (narrowed masks goal) i 0) mode ≡ (bit (get_or masks i 0) mode && bit (wished goal i) mode)
bit-narrowed masks goal i mode h =
    by_cases (ltb i (length goal))
    (λ t. rw (narrowed-within masks goal i (ltb-true _ _ t), bit-both, t))
    (λ f. rw (narrowed-past masks goal i (ltb-false _ _ f), f, bit-full mode h) (sym (and-true _)))

narrowed-le : (masks goal : List ℕ) (i : ℕ) → get_or (narrowed masks goal) i 0 ≤ get_or masks i 0
unfolding both
narrowed-le masks goal i =
    by_cases (ltb i (length goal))
    (λ t. rw (narrowed-within masks goal i (ltb-true _ _ t)) (and_le_l (get_or masks i 0) (get_or goal i 0)))
    (λ f. rw (narrowed-past masks goal i (ltb-false _ _ f)) (le_refl _))

-- and so after each goal
bit-narrowed_by : (goals : Goals) (masks : List ℕ) (i mode : ℕ) → mode < 8
    → bit (get_or (narrowed_by goals masks) i 0) mode
    ≡ (bit (get_or masks i 0) mode && all (λ goal. bit (wished goal i) mode) goals)
unfolding narrowed_by all
bit-narrowed_by [] masks i mode h = sym (and-true _)
bit-narrowed_by (goal ∷ goals) masks i mode h =
    bit-narrowed_by goals (narrowed masks goal) i mode h
    ∙ ap (λ b. b && all (λ goal. bit (wished goal i) mode) goals) (bit-narrowed masks goal i mode h)
    ∙ and_assoc (bit (get_or masks i 0) mode) (bit (wished goal i) mode) _

narrowed_by-le : (goals : Goals) (masks : List ℕ) (i : ℕ) → get_or (narrowed_by goals masks) i 0 ≤ get_or masks i 0
unfolding narrowed_by
narrowed_by-le [] masks i = le_refl _
narrowed_by-le (goal ∷ goals) masks i =
    omega (arith, narrowed_by-le goals (narrowed masks goal) i, narrowed-le masks goal i)

-- what is left of 32 full bytes
module _ (goals : Goals) (i : ℕ) (h : i < 32) where
  full : ◌≡◌ {A = ℕ} (get_or (replicate 32 255) i 0) 255
  full = get_or-replicate 32 i 255 0 h

  abbrev left : ℕ
  left = get_or (narrowed_by goals (replicate 32 255)) i 0

  left-bit : (mode : ℕ) → mode < 8 → bit left mode ≡ all (λ goal. bit (wished goal i) mode) goals
  left-bit mode few = bit-narrowed_by goals (replicate 32 255) i mode few ∙ rw (full, bit-full mode few)

  pub narrowed-shared : get_or (narrowed_by goals (replicate 32 255)) i 0 ≡ shared_modes goals i
  unfolding shared_modes
  narrowed-shared =
      worths-make 8 left (omega (arith, narrowed_by-le goals (replicate 32 255) i, full))
      ∙ ap sum
      (map-cong _ _ (up_to 8) (λ mode l. ap (λ b. cond b (2 ^ mode) 0) (left-bit mode (up_to-below 8 l))))
