-- A move judged by 6, test by test.
-- Assumes nothing.
use Prim.Native.Nat.{ℕ}
use mathlib.Core.Path.{◌≡◌, refl, sym, ◌∙◌}
use mathlib.Core.Bool.{Bool, true, false, not, ◌||◌}
use mathlib.Core.List.{List}
use borrow.Author.Tests.{lt-leb, eq-eqb, ne_eqb}
use lib.Dec.{eqb, leb}
use lib.ListN.{get_or}
use Rattle.common.specs.Bits.{bit, beyond}
use Rattle.common.proofs.Bits.{bit_below}
use Rattle.common.proofs.Bools.{or_left, or_right}
use Rattle.sheet.specs.Record.{byte}
use Rattle.sheet.specs.Model.{Move, move_of}
use Rattle.sheet.specs.Faults.{bad_move}
use Rattle.sheet.specs.Kept.Held.{dead_move}

module _ (live body : List ℕ) where
  start : {i lit : ℕ} → i ≡ byte body 0 → lit ≡ byte live i → dead_move live (move_of body)
      ≡ (eqb (byte body 1) (byte body 2) || not (bit lit (byte body 1)) || not (bit lit (byte body 2)))
  unfolding dead_move move_of
  start e l = rw (l, e)

  pub dead-stays : byte body 1 ≡ byte body 2 → true ≡ dead_move live (move_of body)
  unfolding dead_move move_of
  dead-stays h = rw (eq-eqb _ _ h)

  module _ {i lit : ℕ} {f : Bool} (on : byte body 1 ≡ byte body 2 → ⊥) (e : i ≡ byte body 0) (l : lit ≡ byte live i)
      (g : f ≡ bit lit (byte body 1)) where
    later : dead_move live (move_of body) ≡ (not f || not (bit lit (byte body 2)))
    later = start e l ∙ rw (ne_eqb _ _ on, ← g)

    pub dead-failed : f ≡ false → true ≡ dead_move live (move_of body)
    dead-failed h = sym (later ∙ rw h)

    pub dead-rest : {t : Bool} → f ≡ true → t ≡ bit lit (byte body 2) → not t ≡ dead_move live (move_of body)
    dead-rest h q = sym (later ∙ rw (h, q))

-- a live mode is one of the machine's
lives : (a b c p q : Bool) → (p ≡ true → a ≡ false) → (q ≡ true → b ≡ false)
    → (a || b || c || not p || not q) ≡ (c || not p || not q)
lives a b c false q f g = or_left (not q) (or_right (a || b || c) refl) ∙ sym (or_left (not q) (or_right c refl))
lives a b c true false f g = or_right (a || b || c || false) refl ∙ sym (or_right (c || false) refl)
lives a b c true true f g = rw (f refl, g refl)

pub bad-move-dead : (modes live : List ℕ) (v : Move)
    → beyond (get_or modes v.machine 0) (get_or live v.machine 0) ≡ false → bad_move modes live v ≡ dead_move live v
unfolding bad_move dead_move
bad-move-dead modes live v h =
    let count : ℕ = get_or modes v.machine 0 in
    let lit : ℕ = get_or live v.machine 0 in
    lives (leb count v.from) (leb count v.to) (eqb v.from v.to) (bit lit v.from) (bit lit v.to)
    (λ t. lt-leb _ _ (bit_below count lit v.from h t)) (λ t. lt-leb _ _ (bit_below count lit v.to h t))
