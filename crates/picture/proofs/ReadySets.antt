-- Ready for a number, by sets of groups: the machine's group is from the number on, and needs none from there on.
-- Assumes nothing.
use Prim.Native.Nat.{ℕ, ◌-◌, ◌≤◌, ◌<◌}
use mathlib.Core.Path.{◌≡◌, refl, sym, ◌∙◌}
use mathlib.Core.Logic.{⊎_elim}
use mathlib.Core.List.{List}
use mathlib.Core.Bool.{Bool, true, false, ◌&&◌}
use native.Mathlib.Nat.{eq-or-lt_of_le}
use native.Mathlib.Omega.{arith}
use borrow.Author.Tests.{eqb-true, eq-eqb, leb-true, le-leb, not-true}
use lib.Dec.{eqb, leb}
use lib.ListN.{length, get_or}
use Rattle.common.specs.Bits.{bit}
use Rattle.common.specs.Lists.{up_to, all, find}
use Rattle.common.proofs.Bools.{true-false, false-of-not-true, bool-ext, not_of_false}
use Rattle.common.proofs.Bools.{and_intro, and_left, and_right, or_left, or_right, or_cases}
use Rattle.common.proofs.Lists.{any_none, any-fails, all-intro}
use Rattle.common.proofs.Members.{up_to-below}
use Rattle.common.proofs.Search.{find-cong}
use Rattle.common.proofs.Tested.{one-fails}
use Rattle.sets.specs.Kept.Sets.{union}
use Rattle.sets.proofs.Laws.{bit-none, bit-union}
use Rattle.plan.proofs.Named.{group-below-count}
use Rattle.picture.specs.Picture.{Edge, edge, edges_by}
use Rattle.picture.specs.Reading.{ready, in_turn}
use Rattle.picture.specs.Kept.Shown.{shown, Shows}
use Rattle.picture.specs.Kept.Turns.{Waiting, ready_in, turn_of}
use Rattle.picture.proofs.Edges.{edges_by-members}

module _ {numbers targets : List ℕ} (s : Shows numbers targets) where
  number-below : (i : ℕ) → i < length numbers → get_or numbers i 0 < length targets
  number-below i h = omega (arith, group-below-count numbers i h, s.all-groups)

  pub number_fits : (i : ℕ) → i < length numbers → get_or numbers i 0 < 32
  number_fits i h = omega (arith, number-below i h, s.few-groups)

  pub number_small : (i : ℕ) → i < length numbers → get_or numbers i 0 < 64
  number_small i h = omega (arith, number-below i h, s.few-groups)

  module _ {k waiting : ℕ} (w : Waiting targets k waiting) where
    ready-in : (i : ℕ) → i < length numbers → ready (shown numbers targets) k i ≡ ready_in numbers waiting k i
    unfolding ready ready_in shown
    ready-in i h =
        bool-ext
        (λ t.
        and_intro {a = leb k g} (and_left (leb k g) _ t)
        (not_of_false (false-of-not-true (λ u.
        let (a, from, below, on) = w.sound g u in
        true-false
        (and_intro (eq-eqb g g refl) (le-leb k a from))
        (any_none later (not-true _ (and_right (leb k g) _ t))
        ((edges_by-members joined c (edge a g)).1 (below, small, on)))))))
        (λ t.
        and_intro {a = leb k g} (and_left (leb k g) _ t)
        (not_of_false (any-fails later (edges_by joined c) (λ e m. false-of-not-true (λ u.
        let (a-below, g-below, on) = (edges_by-members joined c e).0 m in
        let q = eqb-true e.target g (and_left _ _ u) in
        let l = leb-true k e.source (and_right (eqb e.target g) _ u) in
        let v : bit (get_or targets e.source 0) g ≡ true = rw (← q) on in
        true-false (w.whole e.source g l a-below v) (not-true _ (and_right (leb k g) _ t)))))))
      where
        g : ℕ
        g = get_or numbers i 0

        c : ℕ
        c = length targets

        small : g < c
        small = number-below i h

        joined : ℕ → ℕ → Bool
        joined a j = bit (get_or targets a 0) j

        later : Edge → Bool
        later e = eqb e.target g && leb k e.source

    pub turn_is : turn_of numbers waiting k ≡ in_turn (shown numbers targets) k
    unfolding turn_of in_turn shown
    turn_is =
        let n = length numbers in
        let same : find (ready_in numbers waiting k) (up_to n) n ≡ find (ready (shown numbers targets) k) (up_to n) n
        = find-cong _ _ (up_to n) n (λ i i-in. sym (ready-in i (up_to-below n i-in))) in
        rw same refl

-- The loop over the numbers, from the last down

module _ (numbers targets : List ℕ) where
  abbrev due : ℕ → Bool
  due = in_turn (shown numbers targets)

  -- the numbers from k on are in turn
  pub record TurnsFrom (k waiting : ℕ) : Type 0 where
    pub inside : k ≤ length targets
    pub waits : Waiting targets k waiting
    pub each : (j : ℕ) → k ≤ j → j < length targets → due j ≡ true

  pub turns-none : TurnsFrom (length targets) 0
  turns-none =
      record {
        inside = omega arith;
        waits = record {
          sound = λ g t. absurd (true-false t (bit-none g));
          whole = λ a g from below t. absurd (let f : ⊥ = omega arith in f);
        };
        each = λ j from below. absurd (let f : ⊥ = omega arith in f);
      }

  module _ {k waiting w : ℕ} (u : TurnsFrom k waiting) (some : 0 < k)
      (e : w ≡ union waiting (get_or targets (k - 1) 0)) where
    pub turn-waits : Waiting targets (k - 1) w
    turn-waits =
        record {
          sound = λ g t.
              ⊎_elim
              (λ old. let (a, from, below, on) = u.waits.sound g old in (a, omega arith, below, on))
              (λ new. (k - 1, omega arith, omega (arith, u.inside), new))
              (or_cases (bit waiting g) _ (sym (bit-union waiting (get_or targets (k - 1) 0) g) ∙ rw e at t));
          whole = λ a g from below t.
              rw (e, bit-union)
              (⊎_elim
              (λ (q : k - 1 ≡ a). or_right (bit waiting g) (rw q t))
              (λ l. or_left _ (u.waits.whole a g (omega arith) below t))
              (eq-or-lt_of_le from));
        }

    pub turns_next : due (k - 1) ≡ true → TurnsFrom (k - 1) w
    turns_next t =
        record {
          inside = omega (arith, u.inside);
          waits = turn-waits;
          each = λ j from below.
              ⊎_elim
              (λ (q : k - 1 ≡ j). rw (← q) t)
              (λ l. u.each j (omega arith) below)
              (eq-or-lt_of_le from);
        }

    pub turn-fails : due (k - 1) ≡ false → false ≡ all due (up_to (length targets))
    turn-fails f = one-fails _ _ (omega (arith, u.inside)) f

  pub turns-all : {k waiting : ℕ} → TurnsFrom k waiting → k ≤ 0 → true ≡ all due (up_to (length targets))
  turns-all u z =
      sym (all-intro due (up_to (length targets)) (λ j m. u.each j (omega arith) (up_to-below (length targets) m)))
