-- The loop over the machines that adds up the mode of each group: what each machine adds fits a byte.
-- Assumes nothing.
use Prim.Native.Nat.{ℕ, zero, suc, ◌+◌, ◌*◌, ◌≤◌, ◌<◌}
use mathlib.Core.Path.{◌≡◌, refl, sym, ◌∙◌}
use mathlib.Core.Logic.{⊎_elim}
use mathlib.Core.List.{List}
use mathlib.Core.Bool.{true}
use native.Mathlib.Nat.{eq-or-lt_of_le, le_of_suc-le-suc, zero-mul}
use native.Mathlib.Numerals.{add-one}
use native.Mathlib.Omega.{arith}
use borrow.Author.Tests.{eqb-true, eqb-false, ne_eqb}
use mir.Val.{Fits}
use mir.Syntax.{w8}
use lib.Arith.{le-zero}
use lib.Dec.{eqb}
use lib.ListN.{length, get_or, set, replicate, length-set}
use lib.Seq.{get_or-set_same, get_or-set_other}
use Rattle.common.specs.Reply.{clear}
use Rattle.common.proofs.Bools.{by_cases}
use Rattle.common.proofs.Pad.{get_or-zeros}
use Rattle.sheet.specs.Model.{Model}
use Rattle.plan.specs.Groups.{group_of}
use Rattle.plan.specs.Modes.{mode_number}
use Rattle.plan.specs.Kept.ModeSets.{Weighed}
use Rattle.plan.proofs.Radix.{place, number}
use Rattle.plan.proofs.ModeDigits.{counts, digits, is_member, weight-place, mode_number-number, digits-member, digits-outside}
use Rattle.plan.proofs.Modes.{mode_number-below}
use Rattle.plan.proofs.MachineDigits.{group-small, mode-fits}
use Rattle.command.specs.State.{modes, mode_of, state_faults}
use Rattle.command.proofs.Shape.{sound-state}

-- fewer digits write no larger a number
number-rises : (c d : ℕ → ℕ) (i n : ℕ) → i ≤ n → number c d i ≤ number c d n
unfolding number
number-rises c d i zero h = rw (le-zero h) (omega arith)
number-rises c d i (suc n) h =
    ⊎_elim
    (λ e. rw e (omega arith))
    (λ l. omega (arith, number-rises c d i n (le_of_suc-le-suc l)))
    (eq-or-lt_of_le h)

-- the state has two bytes for each machine
pub weighed-bytes : {m : Model} {numbers weights : List ℕ} (state : List ℕ) → Weighed m numbers weights → clear (state_faults m state) ≡ true
    → 2 * length numbers ≤ length state
weighed-bytes {m} state w passes = omega (arith, w.all-machines, (sound-state m state passes).long)

-- each number is a place of an array of 32
abbrev pub Places : List ℕ → Type 0
Places numbers = (i : ℕ) → i < length numbers → get_or numbers i 0 < 32

-- the number of machine i, as it was read, is such a place
number-place : (numbers : List ℕ) {i g k : ℕ} → Places numbers → i < length numbers → g ≡ group_of numbers i → k ≡ g → k < 32
number-place numbers {i} places l e f = rw (f, e) (places i l)

module _ (state numbers weights : List ℕ) where
  -- what the first i machines add to the mode of group k
  abbrev added : Model → ℕ → ℕ → ℕ
  added m k i = number (counts m numbers k) (digits m numbers k (modes state)) i

  pub record PresentUpto (i : ℕ) (r : List ℕ) : Type 0 where
    pub inside : i ≤ length numbers
    pub whole : length r ≡ 32
    pub at : (m : Model) → Weighed m numbers weights → (k : ℕ) → k < 32 → get_or r k 0 ≡ added m k i

  pub present-none : PresentUpto 0 (replicate 32 0)
  unfolding number
  present-none = record { inside = omega arith; whole = refl; at = λ m w k h. get_or-zeros 32 k }

  module _ {m : Model} (w : Weighed m numbers weights) {i : ℕ} (l : i < length numbers) where
    added-own : added m (group_of numbers i) (suc i) ≡ added m (group_of numbers i) i + mode_of state i * get_or weights i 0
    unfolding number
    added-own =
        rw (
          digits-member m numbers (group_of numbers i) (is_member numbers (group_of numbers i) l refl) (modes state),
          w.weighs.each i l,
          weight-place m numbers (group_of numbers i) i l,
        ) (omega arith)

    added-other : (k : ℕ) → (group_of numbers i ≡ k → ⊥) → added m k (suc i) ≡ added m k i
    unfolding number
    added-other k n =
        rw (digits-outside m numbers k (modes state) i (ne_eqb _ _ n))
        (omega (arith, zero-mul (place (counts m numbers k) i)))

    module _ (passes : clear (state_faults m state) ≡ true) where
      -- what a machine adds, and the mode so far with it
      mode_small : mode_of state i * get_or weights i 0 < 64
      mode_small = mode-fits w l ((sound-state m state passes).fits i (omega (arith, w.all-machines)))

      sum-small : added m (group_of numbers i) i + mode_of state i * get_or weights i 0 < 64
      sum-small =
          omega (
            arith,
            added-own,
            number-rises (counts m numbers (group_of numbers i)) (digits m numbers (group_of numbers i) (modes state)) (suc i)
                (length numbers) l,
            mode_number-number m numbers (group_of numbers i) (modes state),
            mode_number-below m w.valid numbers w.all-machines (group_of numbers i) (modes state)
                (sound-state m state passes).fits,
            group-small w (group_of numbers i),
          )

  -- the turn of machine i, as its mode was read
  module _ {i x : ℕ} (l : i < length numbers) (f : x ≡ mode_of state i) where
    pub mode-byte : {m : Model} → Weighed m numbers weights → clear (state_faults m state) ≡ true
        → Fits w8 (x * get_or weights i 0)
    mode-byte w passes = rw f (omega (arith, mode_small w l passes))

    module _ {g k : ℕ} {r : List ℕ} (u : PresentUpto i r) (places : Places numbers) (e : g ≡ group_of numbers i)
        (h : k ≡ g) where
      pub sum-byte : {m : Model} → Weighed m numbers weights → clear (state_faults m state) ≡ true
          → Fits w8 (get_or r k 0 + x * get_or weights i 0)
      sum-byte {m} w passes =
          rw (f, u.at m w k (number-place numbers places l e h), h, e) (omega (arith, sum-small w l passes))

      pub present-next : PresentUpto (i + 1) (set r k (get_or r k 0 + x * get_or weights i 0))
      present-next =
          let below = number-place numbers places l e h in
          record {
            inside = omega arith;
            whole = length-set r k _ ∙ u.whole;
            at = λ m w j c.
                by_cases (eqb j k)
                (λ t.
                rw (eqb-true j k t, get_or-set_same r k _ 0 (omega (arith, u.whole)), add-one, u.at m w k below, f, h, e)
                (sym (added-own w l)))
                (λ n.
                let other = eqb-false j k n in
                rw (get_or-set_other r k j _ 0 other, add-one, added-other w l j (λ q. other (sym q ∙ sym (h ∙ e))))
                (u.at m w j c));
          }

  pub present-end : {i : ℕ} {r : List ℕ} → PresentUpto i r → length numbers ≤ i → (m : Model) → Weighed m numbers weights
      → (k : ℕ) → k < 32 → get_or r k 0 ≡ mode_number m numbers k (modes state)
  present-end {i} u l m w k h =
      let e : i ≡ length numbers = omega (arith, u.inside) in
      u.at m w k h ∙ rw e (sym (mode_number-number m numbers k (modes state)))
