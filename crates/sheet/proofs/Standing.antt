-- The move that an amendment names, among those that stand.
-- Assumes nothing.
use Prim.Native.Nat.{ℕ, ◌+◌, ◌*◌, ◌≤◌, ◌<◌}
use mathlib.Core.Path.{◌≡◌, refl, sym, ◌∙◌}
use mathlib.Core.Bool.{true, false}
use mathlib.Core.List.{List, map}
use native.Mathlib.Omega.{arith}
use borrow.Author.Tests.{eq-eqb, ne_eqb, le-ltb}
use lib.ListN.{length, get_or, length-map}
use Rattle.common.proofs.Bools.{false-of-not-true}
use Rattle.common.proofs.Lists.{any_none}
use Rattle.common.proofs.Members.{mem-get_or, get_or-map}
use Rattle.sheet.specs.declared.amending.Amendment.{Amendment}
use Rattle.std.specs.Prelude.{Some, None}
use Rattle.sheet.specs.Record.{byte}
use Rattle.sheet.specs.Model.{Move, absent_move, move_of, is_same_move}
use Rattle.sheet.specs.Amend.{named, amendment_of}
use Rattle.sheet.specs.Kept.Sent.{key_of, Small, Sought, Keyed}
use Rattle.sheet.specs.Kept.Scanned.{Named, Stood}
use Rattle.sheet.proofs.Keys.{key-tells, key-repeats}
use Rattle.sheet.proofs.Same.{same-machine, same_from, same_alike}
use Rattle.sheet.proofs.Slots.{seek-tells}

module _ (body : List ℕ) {kind : ℕ} where
  pub named-replaced : kind ≡ 4
      → Named (named (amendment_of kind body)) (record { machine = byte body 0; from = byte body 1; command = byte body 3 })
  unfolding amendment_of move_of
  named-replaced k = rw k (record { machine = refl; from = refl; command = refl })

  pub named-withdrawn : (kind ≡ 4 → ⊥)
      → Named (named (amendment_of kind body)) (record { machine = byte body 0; from = byte body 1; command = byte body 2 })
  unfolding amendment_of
  named-withdrawn o = rw (ne_eqb kind 4 o) (record { machine = refl; from = refl; command = refl })

-- no standing move is so named
stood-none : {vs : List Move} {places : List ℕ} {v : Move}
    → ((j : ℕ) → j < length vs → 0 < get_or places j 0 → is_same_move v (get_or vs j absent_move) ≡ false) → Stood vs places v None
stood-none f =
    record {
      below = λ n e. absurd (other e);
      stands = λ n e. absurd (other e);
      same = λ n e. absurd (other e);
      only = λ n j e. absurd (other e);
      none = λ e. f;
    }
  where
    other : {n : ℕ} → None ≡ Some n → ⊥
    other e = let z : ◌≡◌ {A = ℕ} 0 1 = cc in omega arith

module _ (vs : List Move) {pairs commands owners : List ℕ} (h : Keyed vs pairs commands owners) (v : Move) where
  -- no other move is the same as the one that is
  only_one : {n j : ℕ} → n < length vs → is_same_move v (get_or vs n absent_move) ≡ true → j < length vs → (j ≡ n → ⊥)
      → is_same_move v (get_or vs j absent_move) ≡ false
  only_one {n} {j} l t k o =
      false-of-not-true (λ y.
      o (sym (h.apart n j l k (sym (same_alike v (get_or vs n absent_move) (get_or vs j absent_move) t) ∙ y))))

  -- every move that was sent is small, and so a move that is not is the same as none of them
  large-none : (places : List ℕ) → ((w : Move) → Small w → is_same_move v w ≡ true → ⊥) → Stood vs places v None
  large-none places o =
      stood-none (λ j l s. false-of-not-true (o (get_or vs j absent_move) (h.small _ (mem-get_or vs j absent_move l))))

  module _ (places : List ℕ) {a : Amendment} (n : Named v a) {m : ℕ} (is : m ≡ a.machine) where
    pub no-machine : 32 ≤ m → Stood vs places v None
    no-machine l = large-none places (λ w s t. omega (arith, s.machine, same-machine v w t, n.machine))

    pub no_mode : 8 ≤ a.from → Stood vs places v None
    no_mode l = large-none places (λ w s t. omega (arith, s.from, same_from v w t, n.from))

    -- what the slot tells where the search for the key ends, if the machine and the mode are of some sheet
    module _ (x : m < 32) (y : a.from < 8) (z : a.command < 256) (pair : ℕ) {at : ℕ}
        (is_key : (w : Move) → w.machine ≡ a.machine → w.from ≡ a.from → w.command < 256 → 256 * pair + w.command ≡ key_of w)
        (s : Sought (map key_of vs) pairs commands (256 * pair + a.command) at) where
      named_small : Small v
      named_small =
          record {
            machine = omega (arith, n.machine);
            from = omega (arith, n.from);
            command = omega (arith, n.command);
          }

      sought-key : 256 * pair + a.command ≡ key_of v
      sought-key = rw (← n.command) (is_key v n.machine n.from (omega (arith, n.command)))

      pub free-none : get_or commands at 0 ≡ 0 → Stood vs places v None
      free-none f =
          let none =
          sym (key-repeats vs v h.small named_small) ∙ seek-tells sought-key s ∙ le-ltb 0 (get_or commands at 0) (omega arith) in
          stood-none (λ j l p. any_none (is_same_move v) none (mem-get_or vs j absent_move l))

      module _ (t : get_or commands at 0 ≡ 0 → ⊥) {k : ℕ} (o : k ≡ get_or owners at 0) where
        below : k < length vs
        below = omega (arith, (h.table.held at (omega arith)).below, length-map vs key_of)

        same : is_same_move v (get_or vs k absent_move) ≡ true
        same =
            let own = h.table.held at (omega arith) in
            let its : key_of (get_or vs k absent_move) ≡ 256 * pair + a.command =
            sym (get_or-map key_of vs k absent_move 0 below) ∙ rw o own.key ∙ s.holds (omega arith) in
            sym (key-tells v _ named_small (h.small _ (mem-get_or vs k absent_move below))) ∙ eq-eqb _ _ (sym (its ∙ sought-key))

        pub withdrawn-none : get_or places k 0 ≡ 0 → Stood vs places v None
        withdrawn-none f =
            stood-none (λ j l p.
            only_one below same l (λ q.
            let w : get_or places j 0 ≡ 0 = rw q f in
            omega arith))

        pub owner-stands : (get_or places k 0 ≡ 0 → ⊥) → Stood vs places v (Some k)
        owner-stands p =
            record {
              below = λ i q. rw (← number q) below;
              stands = λ i q. rw (← number q) (omega arith);
              same = λ i q. rw (← number q) same;
              only = λ i j q l d. only_one below same l (λ r. d (r ∙ number q));
              none = λ q. let no : ◌≡◌ {A = ℕ} 0 1 = cc in absurd (let f : ⊥ = omega arith in f);
            }
          where
            number : {i : ℕ} → Some k ≡ Some i → k ≡ i
            number q = cc
