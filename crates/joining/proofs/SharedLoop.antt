-- The loop that narrows 32 masks by each of the lent goals. Assumes nothing.
use Prim.Native.Nat.{ℕ, ◌≤◌, ◌<◌}
use mathlib.Core.Path.{◌≡◌, refl, ◌∙◌}
use mathlib.Core.List.{List, [], Memᴰ}
use lib.ListN.{length, get_or, replicate}
use Rattle.joining.specs.Join.{Goals, shared_modes}
use Rattle.joining.specs.Kept.Coming.{Front}
use Rattle.joining.specs.Kept.Lent.{SplitsShort, narrowed, narrowed_by}
use Rattle.joining.proofs.Splitting.{ReadTo, read_none, read_first, read_next, read-end}
use Rattle.joining.proofs.Narrowing.{narrowed-shared}

-- the 32 masks are narrowed by the goals that are read, and those that are left are short
pub record Narrowed (masks : List ℕ) (every rest : Goals) : Type 0 where
  pub size : length masks ≡ 32
  pub short : (goal : List ℕ) → Memᴰ goal rest → length goal ≤ 32
  pub left : narrowed_by rest masks ≡ narrowed_by every (replicate 32 255)

module _ {lent : List ℕ} where
  pub shared-none : (every : Goals) → SplitsShort lent every → ReadTo lent lent (Narrowed (replicate 32 255))
  shared-none every h =
      read_none (Narrowed (replicate 32 255)) every h.holds (record { size = refl; short = h.short; left = refl })

  module _ {rest masks : List ℕ} (i : ReadTo lent rest (Narrowed masks)) where
    module _ {goal others : List ℕ} (f : Front rest goal others) where
      pub shared-short : length goal ≤ length masks
      shared-short =
          let k = (read_first (Narrowed masks) i f i.holds).1 in
          rw k.size (k.short goal (Memᴰ.head refl))

      pub shared-next : {after : List ℕ} → length after ≡ length masks → after ≡ narrowed masks goal
          → ReadTo lent others (Narrowed after)
      unfolding narrowed_by
      shared-next {after} z n =
          read_next (Narrowed masks) i f (Narrowed after) (λ every later k.
          record {
            size = z ∙ k.size;
            short = λ other m. k.short other (Memᴰ.tail m);
            left = rw n k.left;
          })

    pub shared-end : rest ≡ [] → (every : Goals) → SplitsShort lent every → (machine : ℕ) → machine < 32
        → get_or masks machine 0 ≡ shared_modes every machine
    unfolding narrowed_by
    shared-end z every h machine few =
        rw (read-end (Narrowed masks) i z h.holds).left (narrowed-shared every machine few)
