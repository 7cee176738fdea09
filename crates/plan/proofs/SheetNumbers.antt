-- Numbers below 32 for a sheet's machines: they fit the arrays, and what is kept of their groups.
-- Assumes nothing.
use Prim.Native.Nat.{ℕ, ◌≤◌, ◌<◌}
use mathlib.Core.Path.{◌≡◌, sym, ap, ◌∙◌}
use mathlib.Core.List.{List}
use mathlib.Core.Bool.{not}
use native.Mathlib.Omega.{arith}
use lib.Dec.{eqb}
use lib.ListN.{length, get_or, take, replicate, get_or-replicate}
use lib.Seq.{length-take-le}
use Rattle.common.specs.Bits.{bit}
use Rattle.common.specs.Lists.{any}
use Rattle.common.proofs.Lists.{all-intro, filter-all}
use Rattle.sheet.specs.declared.index.Sheet.{Sheet}
use Rattle.sheet.specs.Model.{Model}
use Rattle.sheet.specs.Valid.{Valid}
use Rattle.sheet.specs.Kept.Indexed.{Indexes}
use Rattle.sheet.proofs.Indexed.{indexes-valid, indexes-machines, indexes-array, indexes-room}
use Rattle.plan.specs.Groups.{Grouping, moves_of, named_outside}
use Rattle.plan.specs.Kept.Sizes.{SmallNumbers}
use Rattle.plan.specs.Kept.Partition.{Numbers, Numbered, counted_moves, NamedSets}
use Rattle.plan.proofs.Named.{moves-below}

module _ {s : List ℕ} {x : Sheet} {m : Model} (i : Indexes s x m) {numbers : List ℕ} (n : Numbers x numbers) where
  pub numbers-few : length numbers ≤ 32
  numbers-few = omega (arith, n.one_each, indexes-machines i, (indexes-valid i).few-machines)

  pub numbers-small : SmallNumbers numbers x.modes
  numbers-small = record { few = numbers-few; below = n.below; counted = omega (arith, numbers-few, indexes-array i) }

  pub numbers_of : Numbered m numbers
  numbers_of = record { valid = indexes-valid i; one_each = n.one_each ∙ indexes-machines i; below = n.below }

-- the moves' places, as they are lent
pub places-lent : {s : List ℕ} {x : Sheet} {m : Model} → Indexes s x m → x.moves ≡ length (take x.moves x.places)
places-lent i = sym (length-take-le _ _ (indexes-room i))

-- where each of 250 bytes is 1, all moves count
pub all-counted : (m : Model) (groups : Grouping) → Valid m → (k : ℕ)
    → counted_moves m groups (replicate 250 1) k ≡ moves_of m groups k
unfolding counted_moves
all-counted m groups valid k =
    filter-all _ (moves_of m groups k) (all-intro _ (moves_of m groups k) (λ v l.
    let h : v < 250 = omega (arith, moves-below m groups k l, valid.few-moves) in
    ap (λ c. not (eqb c 0)) (get_or-replicate {A = ℕ} 250 v 1 0 h)))

pub all_named : {s : List ℕ} {x : Sheet} {m : Model} {groups : Grouping} {sets : List ℕ} → Indexes s x m
    → NamedSets m groups (replicate 250 1) sets → (k a : ℕ) → k < 32
    → bit (get_or sets k 0) a ≡ any (eqb a) (named_outside m groups k (moves_of m groups k))
all_named {m = m} {groups = groups} i n k a h =
    n.bits k a h ∙ ap (λ l. any (eqb a) (named_outside m groups k l)) (all-counted m groups (indexes-valid i) k)
