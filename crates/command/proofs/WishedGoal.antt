-- What the caller's goal allows each machine: its byte, and past its end all modes of the machine. Assumes nothing.
use Prim.Native.Nat.{ℕ, ◌+◌, ◌^◌, ◌≤◌, ◌<◌}
use mathlib.Core.Path.{◌≡◌, sym, ap, ◌∙◌}
use mathlib.Core.List.{List, map}
use mathlib.Core.Bool.{true, false, cond}
use native.Mathlib.Omega.{arith}
use borrow.Author.Tests.{ltb-true, ltb-false, lt-ltb, le-ltb}
use lib.Dec.{ltb}
use lib.Pow.{pow_pos, pow_mono}
use lib.ListN.{length, get_or, set, replicate}
use Rattle.common.specs.Lists.{up_to, pad}
use Rattle.common.specs.Reply.{clear}
use Rattle.common.proofs.Bits.{small-beyond}
use Rattle.common.proofs.Bools.{by_cases, cond-true, cond-false}
use Rattle.common.proofs.Members.{get_or-map-up_to}
use Rattle.common.proofs.Pad.{get_or-pad, pad-nil}
use Rattle.sets.specs.Kept.Sets.{below}
use Rattle.sets.proofs.Laws.{bit-first}
use Rattle.sheet.specs.Record.{byte}
use Rattle.sheet.specs.Model.{Model, machine_count, mode_count}
use Rattle.sheet.specs.Valid.{Valid}
use Rattle.plan.specs.Kept.Sizes.{CountsOf}
use Rattle.plan.proofs.ArrayLoops.{fills-map}
use Rattle.command.specs.Goal.{goal_faults}
use Rattle.command.specs.Goal.{goal_masks}
use Rattle.command.specs.Kept.Question.{Allows}
use Rattle.command.proofs.Guards.{full-byte}
use Rattle.command.proofs.TurnedDown.{goal-passes}
use Rattle.command.proofs.Wished.{mask-within, mask-past}

-- all modes of a machine are a byte
below-fits : (n : ℕ) → below n < 2 ^ n
unfolding below
below-fits n = omega (arith, pow_pos n)

pub below-byte : {n w r : ℕ} → n ≤ 8 → w ≡ n → r ≡ below w → r < 256
below-byte {n} h e f = rw (f, e) (omega (arith, below-fits n, pow_mono h))

module _ (goal : List ℕ) {at i : ℕ} (ei : at ≡ i) where
  pub wished-inside : (n : ℕ) → at < length goal → get_or goal at 0 ≡ cond (ltb i (length goal)) (byte goal i) (below n)
  wished-inside n h = rw (← ei) (sym (cond-true _ _ (lt-ltb _ _ h)))

  pub wished-past : {n w r : ℕ} → length goal ≤ at → w ≡ n → r ≡ below w
      → r ≡ cond (ltb i (length goal)) (byte goal i) (below n)
  wished-past h e f = rw (← ei) (f ∙ ap below e ∙ sym (cond-false _ _ (le-ltb _ _ h)))

module _ (goal modes : List ℕ) where
  abbrev mask : ℕ → ℕ
  mask i = cond (ltb i (length goal)) (byte goal i) (below (get_or modes i 0))

  -- the masks of the machines before i, zeros behind them
  pub record WishedUpto (n i : ℕ) (r : List ℕ) : Type 0 where
    pub inside : i ≤ n
    pub array : r ≡ pad 32 (map mask (up_to i))

  pub wished-none : (n : ℕ) → WishedUpto n 0 (replicate 32 0)
  unfolding up_to
  wished-none n = record { inside = omega arith; array = sym (pad-nil 32) }

  pub wished-next : {n i x : ℕ} {r : List ℕ} → WishedUpto n i r → i < n → n ≤ 32
      → x ≡ cond (ltb i (length goal)) (byte goal i) (below (get_or modes i 0)) → WishedUpto n (i + 1) (set r i x)
  wished-next w l few e = record { inside = omega arith; array = fills-map 32 mask w.array (omega arith) e }

  pub wished-end : {n i : ℕ} {r : List ℕ} → WishedUpto n i r → n ≤ i → (m : Model) → Valid m → CountsOf m modes
      → n ≡ machine_count m → clear (goal_faults m goal) ≡ true → Allows m (goal_masks m goal) r
  wished-end {n} {i} {r} w l m valid counts e passes =
      record {
        each = λ j mode here has.
            by_cases (ltb j (length goal))
            (λ t. rw (within j here t, mask-within m goal j here (ltb-true _ _ t)))
            (λ f.
            rw (past j here f, bit-first, lt-ltb mode (mode_count m j) has, mask-past m goal j here (ltb-false _ _ f))
            (sym (full-byte valid j mode here has)));
        within = λ j here.
            by_cases (ltb j (length goal))
            (λ t. rw (within j here t) (small-beyond _ _ (((goal-passes m goal).0 passes).1 j (ltb-true _ _ t)).1))
            (λ f. rw (past j here f) (small-beyond _ _ (below-fits (mode_count m j))));
      }
    where
      here-is : (j : ℕ) → j < machine_count m → get_or r j 0 ≡ mask j
      here-is j here = rw (w.array, get_or-pad) (get_or-map-up_to mask 0 (omega (arith, w.inside)))

      within : (j : ℕ) → j < machine_count m → ltb j (length goal) ≡ true → get_or r j 0 ≡ byte goal j
      within j here t = here-is j here ∙ cond-true _ _ t

      past : (j : ℕ) → j < machine_count m → ltb j (length goal) ≡ false → get_or r j 0 ≡ below (mode_count m j)
      past j here f = here-is j here ∙ cond-false _ _ f ∙ ap below (counts j)
