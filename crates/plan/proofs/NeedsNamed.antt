-- Needs come first exactly if each group's moves name lower groups alone; and how the sets of named groups show it.
-- Assumes nothing.
use Prim.Native.Nat.{ℕ, ◌+◌, ◌-◌, ◌≤◌, ◌<◌}
use mathlib.Core.Path.{◌≡◌, refl, sym, ap, ◌∙◌}
use mathlib.Core.Logic.{◌↔◌, ⊎_elim}
use mathlib.Core.List.{List, Memᴰ}
use mathlib.Core.Bool.{true, false}
use native.Mathlib.Omega.{arith}
use borrow.Author.Tests.{eqb-true, eq-eqb}
use lib.Dec.{eqb}
use lib.ListN.{length, get_or}
use Rattle.common.specs.Bits.{bit}
use Rattle.common.specs.Lists.{up_to, any}
use Rattle.common.proofs.Bools.{true-false, false-of-not-true, bool-ext}
use Rattle.common.proofs.Lists.{all-at, all-intro, any-intro, any_some}
use Rattle.common.proofs.Members.{up_to-mem, up_to-below}
use Rattle.sets.specs.Kept.Sets.{lowered}
use Rattle.sets.proofs.Laws.{bit-none, bit-lowered, no_bits}
use Rattle.sheet.specs.Model.{Guard, Model, machine_count, move_count, move_at}
use Rattle.sheet.specs.Valid.{Valid}
use Rattle.plan.specs.Groups.{Grouping, group_of, group_count, moves_of, named_outside}
use Rattle.plan.specs.Reading.{needs_first}
use Rattle.plan.specs.Kept.Outline.{lower_named}
use Rattle.plan.proofs.Named.{group-below-count, moves-in, moves-below, moves-group, named_by}
use Rattle.plan.proofs.Named.{named-lower, named-of-move, guard-inside-or-named}
use Rattle.plan.proofs.Words.{first-means}

-- each group's moves name lower groups alone
abbrev pub NamesLower : Model → Grouping → Type 0
NamesLower m groups = (k a : ℕ) → Memᴰ a (named_outside m groups k (moves_of m groups k)) → a < k

module _ (m : Model) (groups : Grouping) (valid : Valid m) (all-machines : length groups ≡ machine_count m) where
  guard-lower : NamesLower m groups → (v : ℕ) (g : Guard) → v < move_count m → Memᴰ g (move_at m v).guards
      → group_of groups g.machine ≤ group_of groups (move_at m v).machine
  guard-lower lower v g h l =
      let k = group_of groups (move_at m v).machine in
      let v-in : Memᴰ v (moves_of m groups k) = moves-in m groups h refl in
      ⊎_elim
      (λ (e : group_of groups g.machine ≡ k). omega arith)
      (λ n. let b = lower k _ (named-of-move m groups k v-in n) in omega arith)
      (guard-inside-or-named m groups k valid all-machines v-in l)

  pub needs-first-named : (needs_first m groups ≡ true) ↔ NamesLower m groups
  needs-first-named = (λ t k a. named-lower m groups k t, λ lower. (first-means m groups).1 (guard-lower lower))

  -- a group that names another has a machine
  names-below : (k : ℕ) {a : ℕ} → Memᴰ a (named_outside m groups k (moves_of m groups k)) → k < group_count groups
  names-below k l =
      let b = named_by m groups k (moves_of m groups k) l in
      let h = (valid.moves-valid b.0 (moves-below m groups k b.1)).present in
      let g = group-below-count groups (move_at m b.0).machine (rw all-machines h) in
      omega (arith, moves-group m groups k b.1)

  module _ (named : List ℕ) (few : group_count groups ≤ 32)
      (are : (k a : ℕ) → k < 32
      → bit (get_or named k 0) a ≡ any (eqb a) (named_outside m groups k (moves_of m groups k))) where
    sets-lower : lower_named named (group_count groups) ≡ true → NamesLower m groups
    unfolding lower_named
    sets-lower t k a l =
        let h = names-below k l in
        let z = eqb-true (lowered (get_or named k 0) k) 0 (all-at _ t (up_to-mem h)) in
        let on = are k a (omega arith) ∙ any-intro (eqb a) l (eq-eqb a a refl) in
        let off : bit (get_or named k 0) (k + (a - k)) ≡ false = rw (← bit-lowered, z) (bit-none (a - k)) in
        let not-above : ¬ (k ≤ a) = λ b.
        let e : k + (a - k) ≡ a = omega arith in
        true-false on (ap (bit (get_or named k 0)) (sym e) ∙ off) in
        omega arith

    lower-sets : NamesLower m groups → lower_named named (group_count groups) ≡ true
    unfolding lower_named
    lower-sets lower =
        all-intro _ (up_to (group_count groups)) (λ k l.
        let h = up_to-below (group_count groups) l in
        let none = no_bits {s = lowered (get_or named k 0) k} (λ i.
        false-of-not-true (λ t.
        let on = sym (are k (k + i) (omega arith)) ∙ sym (bit-lowered (get_or named k 0) k i) ∙ t in
        let r = any_some (eqb (k + i)) _ on in
        let b = lower k r.0 r.1 in
        omega (arith, eqb-true (k + i) r.0 r.2))) in
        eq-eqb _ 0 none)

    pub lower-named-first : lower_named named (group_count groups) ≡ needs_first m groups
    lower-named-first =
        bool-ext
        (λ t. needs-first-named.1 (sets-lower t))
        (λ t. lower-sets (needs-first-named.0 t))
