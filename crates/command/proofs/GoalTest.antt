-- 14: none of the goal's bytes before i is empty or beyond its machine's modes; and the test of the whole goal.
-- Assumes nothing.
use Prim.Native.Nat.{ℕ, ◌+◌, ◌≤◌, ◌<◌}
use mathlib.Core.Path.{◌≡◌, sym, ap, ◌∙◌}
use mathlib.Core.List.{List}
use mathlib.Core.Bool.{Bool, true, false}
use native.Mathlib.Omega.{arith}
use borrow.Author.Count.{below_more}
use borrow.Author.Tests.{lt-ltb, le-ltb, eq-eqb, ne_eqb}
use lib.Dec.{eqb}
use lib.ListN.{length}
use Rattle.common.specs.Bits.{beyond}
use Rattle.common.specs.Lists.{up_to, find}
use Rattle.common.specs.Reply.{Reply, given, refused, unless}
use Rattle.common.proofs.Bools.{or_left, or_right, or-false-intro}
use Rattle.common.proofs.Search.{find-up_to-is, find-up_to-none, first_some, first-place, first-missing}
use Rattle.common.proofs.Reply.{unless-clear, unless-first, unless-later}
use Rattle.sheet.specs.Record.{byte}
use Rattle.sheet.specs.Model.{Model, machine_count}
use Rattle.plan.specs.Kept.Sizes.{CountsOf}
use Rattle.command.specs.Goal.{bad_byte, goal_faults}

pub record GoodBytes (goal modes : List ℕ) (i : ℕ) : Type 0 where
  pub each : (m : Model) → CountsOf m modes → (j : ℕ) → j < i → bad_byte m goal j ≡ false

-- i is the first that is bad, and the length where none is
abbrev pub FirstBad : List ℕ → List ℕ → ℕ → Type 0
FirstBad goal modes i =
    (m : Model) → CountsOf m modes → i ≡ find (bad_byte m goal) (up_to (length goal)) (length goal)

module _ {goal modes : List ℕ} where
  module _ {i : ℕ} (g : GoodBytes goal modes i) where
    pub good-next : {b : Bool} → (byte goal i ≡ 0 → ⊥) → b ≡ beyond (byte modes i) (byte goal i) → b ≡ false
        → GoodBytes goal modes (i + 1)
    unfolding bad_byte
    good-next n e f =
        record {
          each = λ m h.
              below_more _ i (g.each m h)
              (or-false-intro (ne_eqb (byte goal i) 0 n) (ap (λ k. beyond k (byte goal i)) (sym (h i)) ∙ sym e ∙ f));
        }

    bad-here : i < length goal → ((m : Model) → CountsOf m modes → bad_byte m goal i ≡ true) → FirstBad goal modes i
    bad-here l t m h = sym (find-up_to-is (bad_byte m goal) (length goal) i l (t m h) (g.each m h))

    pub bad-empty : i < length goal → byte goal i ≡ 0 → FirstBad goal modes i
    unfolding bad_byte
    bad-empty l z = bad-here l (λ m h. or_left _ (eq-eqb (byte goal i) 0 z))

    pub bad-beyond : {b : Bool} → i < length goal → b ≡ beyond (byte modes i) (byte goal i) → b ≡ true
        → FirstBad goal modes i
    unfolding bad_byte
    bad-beyond l e t =
        bad-here l (λ m h.
        or_right (eqb (byte goal i) 0) (ap (λ k. beyond k (byte goal i)) (sym (h i)) ∙ sym e ∙ t))

    pub good-end : length goal ≤ i → FirstBad goal modes (length goal)
    good-end k m h = sym (find-up_to-none (bad_byte m goal) (length goal) (λ j b. g.each m h j (omega arith)))

-- The test

module _ (m : Model) (goal : List ℕ) where
  abbrev bad : ℕ → Bool
  bad = bad_byte m goal

  abbrev reply : Reply Unit
  reply = unless (goal_faults m goal) (given tt)

  module _ {n : ℕ} (e : n ≡ machine_count m) where
    pub goal-long : n < length goal → refused 14 255 ≡ reply
    unfolding goal_faults
    goal-long h = sym (unless-first _ _ _ (lt-ltb (machine_count m) (length goal) (omega arith)))

    module _ (short : length goal ≤ n) {i : ℕ} (first : i ≡ find bad (up_to (length goal)) (length goal)) where
      pub goal-bad : i < length goal → refused 14 i ≡ reply
      unfolding goal_faults
      goal-bad h =
          let fits = le-ltb (machine_count m) (length goal) (omega arith) in
          sym
          (unless-later _ _ _ fits
          ∙ unless-first _ _ _ (first_some bad first h)
          ∙ ap (refused 14) (first-place bad first h))

      pub goal-good : length goal ≤ i → given tt ≡ reply
      unfolding goal_faults
      goal-good h =
          sym
          (unless-clear _ _
          (le-ltb (machine_count m) (length goal) (omega arith), (first-missing bad first h, tt)))
