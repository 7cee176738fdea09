-- The guards of a move: one for a machine; and the goal that they make, machine by machine. What is free allows any mode.
-- Assumes nothing.
use Prim.Native.Nat.{ℕ, zero, suc, ◌<◌}
use mathlib.Core.Path.{◌≡◌, refl, sym, ap, ◌∙◌}
use mathlib.Core.Logic.{⊎_elim}
use mathlib.Core.List.{Memᴰ}
use mathlib.Core.Bool.{true, false}
use native.Mathlib.Nat.{not-suc-le-zero, eq-or-lt_of_le, le_of_suc-le-suc}
use native.Mathlib.Omega.{arith}
use borrow.Author.Tests.{eqb-true, eq-eqb, ne_eqb}
use lib.Dec.{eqb}
use lib.ListN.{length, get_or}
use Rattle.common.specs.Lists.{any, find}
use Rattle.common.specs.Bits.{bit}
use Rattle.common.proofs.Bits.{bit-full}
use Rattle.common.proofs.Bools.{cond-true, cond-false}
use Rattle.common.proofs.Members.{mem_index, get_or-map-up_to}
use Rattle.common.proofs.Lists.{any-intro}
use Rattle.common.proofs.Search.{find-holds, find-mem, find_none}
use Rattle.sheet.specs.Model.{Guard, Move, Model, machine_count, mode_count, guard_at, guard, absent_guard}
use Rattle.sheet.specs.Valid.{Valid, ValidMove}
use Rattle.plan.specs.Groups.{Grouping, group_of}
use Rattle.command.specs.Goal.{any_mode, guard_masks}

-- any mode that a machine has is in the full byte
pub full-byte : {m : Model} → Valid m → (i mode : ℕ) → i < machine_count m → mode < mode_count m i → bit any_mode mode ≡ true
full-byte valid i mode there has = bit-full mode (omega (arith, (valid.machines-valid i there).few-modes))

module _ {m : Model} {v : Move} (valid : ValidMove m v) where
  pub guards-rise : (n k : ℕ) → n < k → k < length v.guards → (guard_at v n).machine < (guard_at v k).machine
  guards-rise n zero h l = absurd (not-suc-le-zero h)
  guards-rise n (suc k) h l =
      let last = valid.guards-rise k l in
      ⊎_elim
      (λ e. rw e last)
      (λ b. omega (arith, guards-rise n k b (omega arith)))
      (eq-or-lt_of_le (le_of_suc-le-suc h))

  -- guards on the same machine are the same
  pub same-guard : {g h : Guard} → Memᴰ g v.guards → Memᴰ h v.guards → g.machine ≡ h.machine → g ≡ h
  same-guard {g} {h} g-in h-in e =
      let r = mem_index absent_guard g-in in
      let s = mem_index absent_guard h-in in
      let p : (guard_at v r.0).machine ≡ g.machine = ap (λ x. x.machine) r.2 in
      let q : (guard_at v s.0).machine ≡ h.machine = ap (λ x. x.machine) s.2 in
      let a : ¬ (r.0 < s.0) = λ l. omega (arith, guards-rise r.0 s.0 l s.1) in
      let b : ¬ (s.0 < r.0) = λ l. omega (arith, guards-rise s.0 r.0 l r.1) in
      let i : r.0 ≡ s.0 = omega arith in
      sym r.2 ∙ ap (guard_at v) i ∙ s.2

  -- so the first guard on its machine is the guard itself
  pub find-guard : {g : Guard} (d : Guard) → Memᴰ g v.guards
      → find (λ x. eqb x.machine g.machine) v.guards d ≡ g
  find-guard {g} d g-in =
      let some = any-intro (λ x. eqb x.machine g.machine) g-in (eq-eqb g.machine g.machine refl) in
      same-guard (find-mem _ v.guards d some) g-in (eqb-true _ _ (find-holds _ v.guards d some))

-- The needs on other groups than k, taken as a goal
module _ (m : Model) (groups : Grouping) (k : ℕ) (v : Move) (i : ℕ) (there : i < machine_count m) where
  pub mask-inside : group_of groups i ≡ k → get_or (guard_masks m groups k v) i any_mode ≡ 255
  unfolding guard_masks
  mask-inside e = get_or-map-up_to _ any_mode there ∙ cond-true _ _ (eq-eqb _ _ e)

  pub mask-outside : (group_of groups i ≡ k → ⊥)
      → get_or (guard_masks m groups k v) i any_mode ≡ (find (λ g. eqb g.machine i) v.guards (guard i any_mode)).mask
  unfolding guard_masks
  mask-outside n = get_or-map-up_to _ any_mode there ∙ cond-false _ _ (ne_eqb _ _ n)

  pub mask-free : (group_of groups i ≡ k → ⊥) → any (λ g. eqb g.machine i) v.guards ≡ false
      → get_or (guard_masks m groups k v) i any_mode ≡ 255
  mask-free n none = mask-outside n ∙ ap (λ g. g.mask) (find_none _ v.guards (guard i any_mode) none)

-- the mask of a guard on another group
pub mask-guard : {m : Model} (groups : Grouping) (k : ℕ) {v : Move} → ValidMove m v → {g : Guard} → Memᴰ g v.guards
    → g.machine < machine_count m → (group_of groups g.machine ≡ k → ⊥)
    → get_or (guard_masks m groups k v) g.machine any_mode ≡ g.mask
mask-guard {m} groups k {v} valid {g} l there n =
    mask-outside m groups k v g.machine there n
    ∙ ap (λ x. x.mask) (find-guard valid (guard g.machine any_mode) l)
