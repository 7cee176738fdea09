-- 13: the bytes of each machine before i fit: its mode is there, and its tag is 0 or 1; and the test of the whole state.
-- Assumes nothing.
use Prim.Native.Nat.{ℕ, ◌+◌, ◌*◌, ◌≤◌, ◌<◌}
use mathlib.Core.Path.{◌≡◌, sym, ap, ◌∙◌}
use mathlib.Core.List.{List}
use mathlib.Core.Bool.{Bool, true, false}
use native.Mathlib.Omega.{arith}
use borrow.Author.Count.{below_more}
use borrow.Author.Tests.{eq-eqb, ne_eqb, le-leb, lt-leb}
use lib.Dec.{leb}
use lib.ListN.{length, get_or}
use Rattle.common.specs.Lists.{up_to, find}
use Rattle.common.specs.Reply.{Reply, given, refused, unless}
use Rattle.common.proofs.Bools.{or_left, or_right, or-false-intro, not-of-true, not_of_false}
use Rattle.common.proofs.Search.{find-up_to-is, find-up_to-none, first_some, first-place, first-missing}
use Rattle.common.proofs.Reply.{unless-clear, unless-first, unless-later}
use Rattle.sheet.specs.Model.{Model, machine_count, mode_count}
use Rattle.plan.specs.Kept.Sizes.{CountsOf}
use Rattle.command.specs.State.{mode_of, tag_of, bad_pair, state_faults}

pub record GoodPairs (state counts : List ℕ) (i : ℕ) : Type 0 where
  pub each : (m : Model) → CountsOf m counts → (j : ℕ) → j < i → bad_pair m state j ≡ false

module _ {state counts : List ℕ} where
  module _ {i x : ℕ} (g : GoodPairs state counts i) (e : x ≡ mode_of state i) where
    pub pairs_next : {t : ℕ} → x < get_or counts i 0 → t ≡ tag_of state i → t < 2 → GoodPairs state counts (i + 1)
    unfolding bad_pair
    pairs_next l f b =
        record {
          each = λ m h. below_more _ i (g.each m h)
              (or-false-intro (lt-leb (mode_count m i) (mode_of state i) (omega (arith, h i))) (lt-leb 2 (tag_of state i) (omega arith)));
        }

    -- machine i is the first of n whose bytes do not fit
    module _ {n : ℕ} (l : i < n) (m : Model) (h : CountsOf m counts) where
      bad-here : bad_pair m state i ≡ true → i ≡ find (bad_pair m state) (up_to n) n
      bad-here t = sym (find-up_to-is (bad_pair m state) n i l t (g.each m h))

      pub bad-mode : get_or counts i 0 ≤ x → i ≡ find (bad_pair m state) (up_to n) n
      unfolding bad_pair
      bad-mode k = bad-here (or_left _ (le-leb (mode_count m i) (mode_of state i) (omega (arith, h i))))

      pub bad-tag : {t : ℕ} → t ≡ tag_of state i → 2 ≤ t → i ≡ find (bad_pair m state) (up_to n) n
      unfolding bad_pair
      bad-tag f k = bad-here (or_right (leb (mode_count m i) (mode_of state i)) (le-leb 2 (tag_of state i) (omega arith)))

  pub pairs_end : {n i : ℕ} → GoodPairs state counts i → n ≤ i → (m : Model) → CountsOf m counts
      → n ≡ find (bad_pair m state) (up_to n) n
  pairs_end {n} g l m h = sym (find-up_to-none (bad_pair m state) n (λ j b. g.each m h j (omega arith)))

-- The test

module _ (m : Model) (state : List ℕ) {n : ℕ} (e : n ≡ machine_count m) where
  abbrev bad : ℕ → Bool
  bad = bad_pair m state

  abbrev reply : Reply Unit
  reply = unless (state_faults m state) (given tt)

  pub length-refused : (length state ≡ 2 * n → ⊥) → refused 13 255 ≡ reply
  unfolding state_faults
  length-refused d = sym (unless-first _ _ _ (not_of_false (ne_eqb _ _ (λ q. d (q ∙ ap (λ k. 2 * k) (sym e))))))

  module _ (long : length state ≡ 2 * n) {i : ℕ} (first : i ≡ find bad (up_to n) n) where
    fits : length state ≡ 2 * machine_count m
    fits = long ∙ ap (λ k. 2 * k) e

    pub pair-refused : i < n → refused 13 i ≡ reply
    unfolding state_faults
    pair-refused l =
        sym
        (unless-later _ _ _ (not-of-true (eq-eqb _ _ fits))
        ∙ rw (← e) (unless-first _ _ _ (first_some bad first l) ∙ ap (refused 13) (first-place bad first l)))

    pub state-accepted : n ≤ i → given tt ≡ reply
    unfolding state_faults
    state-accepted l =
        sym (unless-clear _ _ (not-of-true (eq-eqb _ _ fits), (rw (← e) (first-missing bad first l), tt)))
