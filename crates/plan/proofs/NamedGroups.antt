-- Which groups a move names outside its own, as a set; and a turn of the loop over a sheet's moves that gathers these
-- sets.
-- Assumes nothing.
use Prim.Native.Nat.{ℕ, ◌+◌, ◌^◌, ◌≤◌, ◌<◌}
use mathlib.Core.Path.{◌≡◌, sym, ap, ◌∙◌}
use mathlib.Core.List.{List}
use mathlib.Core.Bool.{Bool, false, not, ◌&&◌, ◌||◌, or-false}
use native.Mathlib.Omega.{arith}
use borrow.Author.Tests.{ne_eqb}
use lib.Dec.{eqb}
use lib.ListN.{length, get_or, set}
use Rattle.common.specs.Bits.{bit}
use Rattle.common.specs.Lists.{any, filter}
use Rattle.common.proofs.Bools.{by_cases}
use Rattle.sets.specs.Kept.Sets.{alone, union, less}
use Rattle.sets.proofs.Laws.{bit-none, bit-union, bit-less, bit-alone}
use Rattle.sheet.specs.Record.{byte, body_at}
use Rattle.sheet.specs.Model.{Move, Model, move_at, move_of}
use Rattle.sheet.specs.Kept.Indexed.{Listed}
use Rattle.sheet.proofs.Indexed.{listed-present, listed-long, listed-move}
use Rattle.plan.specs.Groups.{Grouping, group_of, moves_of, names_group, named_outside}
use Rattle.plan.specs.Kept.Partition.{Numbered, NamesIn, OutsideIn, OutsideNamed, AddsNamed, counted_moves, NamedSets}
use Rattle.plan.proofs.GroupLoops.{groups-below}
use Rattle.plan.proofs.NamedLoop.{NamedUpto, named-next, named_end}

-- a move counts whose byte is not 0
abbrev pub counts_in : List ℕ → ℕ → Bool
counts_in counted v = not (eqb (get_or counted v 0) 0)

-- One move

module _ {groups : Grouping} {v : Move} {own : ℕ} where
  pub outside-own : {s k r : ℕ} → NamesIn groups v s → k ≡ own → r ≡ less s (alone k) → OutsideIn groups v own r
  outside-own names q e = record { bits = λ a h. rw (e, q, bit-less, bit-alone, names.bits a h) }

  pub uncounted : {counts : ℕ} → counts ≡ 0 → OutsideNamed groups v own counts 0
  uncounted e = record { bits = λ a h. bit-none a ∙ rw e }

  module _ {x : ℕ} (o : OutsideIn groups v own x) where
    pub outside-as : {k : ℕ} → own ≡ k → OutsideIn groups v k x
    outside-as e = rw (← e) o

    pub counted-outside : {counts : ℕ} → (counts ≡ 0 → ⊥) → OutsideNamed groups v own counts x
    counted-outside {counts} n = record { bits = λ a h. rw (o.bits a h, ne_eqb counts 0 n) }

  -- what it adds to a known set
  module _ {known : ℕ} where
    pub adds-counted : {counts x : ℕ} → OutsideNamed groups v own counts x
        → AddsNamed groups v own (not (eqb counts 0)) known x
    adds-counted o = record { bits = λ a h. rw (o.bits a h) }

    module _ {counts told : Bool} (e : told ≡ counts) where
      pub adds_none : told ≡ false → AddsNamed groups v own counts known 0
      adds_none f = record { bits = λ a h. rw (bit-none, ← e, f) }

    -- whether it counts or not
    pub adds-nothing : {x j : ℕ} → OutsideIn groups v own x → j ≡ union known x → j ≡ known
        → (counts : Bool) → AddsNamed groups v own counts known 0
    adds-nothing {x} o joined same counts =
        record {
          bits = λ a h.
              let old : (bit known a || (names_group groups a v && not (eqb own a))) ≡ bit known a =
              ap (◌||◌ (bit known a)) (sym (o.bits a h)) ∙ sym (bit-union known x a) ∙ ap (λ s. bit s a) (sym joined ∙ same) in
              by_cases counts (λ t. rw (t, bit-none, old) (or-false (bit known a))) (λ f. rw (f, bit-none));
        }

-- One turn of the loop over a sheet's moves, by what its calls ensure

module _ {m : Model} {file places : List ℕ} (l : Listed m file places) {v : ℕ} (h : v < length places) where
  module _ {b : List ℕ} (e : b ≡ body_at file (get_or places v 0)) where
    pub turn-some : 0 < length b
    turn-some = omega (arith, listed-long l h e)

    machine-is : byte b 0 ≡ (move_at m v).machine
    unfolding move_of
    machine-is = ap (λ w. w.machine) (listed-move l h e)

    module _ {numbers : List ℕ} (n : Numbered m numbers) {g k : ℕ} (f : g ≡ group_of numbers (byte b 0)) (q : k ≡ g) where
      -- the group of the move's machine
      pub turn-group : k < 32
      turn-group =
          let here = (n.valid.moves-valid v (listed-present l h)).present in
          let numbered : byte b 0 < length numbers = omega (arith, machine-is, n.one_each) in
          omega (arith, n.below (byte b 0) numbered)

      pub turn-named : {u t : ℕ} (counts : ℕ → Bool) {r : List ℕ} → NamedUpto m numbers counts v r
          → AddsNamed numbers (move_of b) g (counts v) (get_or r k 0) u → t ≡ union (get_or r k 0) u → t < 2 ^ 64
          → NamedUpto m numbers counts (v + 1) (set r k t)
      turn-named {u} counts {r} named adds d fits =
          let here : AddsNamed numbers (move_at m v) k (counts v) (get_or r k 0) u = rw (q, ← listed-move l h e) (rw q at adds) in
          named-next m numbers counts named turn-group (q ∙ f ∙ ap (group_of numbers) machine-is) here d fits

-- After the last move

module _ {m : Model} {file places : List ℕ} (l : Listed m file places) {v : ℕ} {numbers r : List ℕ} (n : Numbered m numbers)
    (within : v ≤ length places) (past : length places ≤ v) where
  pub turns-named : (counts : ℕ → Bool) → NamedUpto m numbers counts v r → (k a : ℕ) → k < 32
      → bit (get_or r k 0) a ≡ any (eqb a) (named_outside m numbers k (filter counts (moves_of m numbers k)))
  turns-named counts named =
      named_end m numbers counts n.valid n.one_each (groups-below numbers n.below) named (omega (arith, l.one_each))

  pub sheet-named : (counted : List ℕ) → NamedUpto m numbers (counts_in counted) v r → NamedSets m numbers counted r
  unfolding counted_moves
  sheet-named counted named = record { bits = turns-named (counts_in counted) named }
