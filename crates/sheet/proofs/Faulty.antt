-- A record behind what was read is right, or faulty by one number. A right one has no cause, a faulty one refuses.
-- Assumes nothing.
use Prim.Native.Nat.{ℕ, ◌+◌}
use mathlib.Core.Path.{◌≡◌, refl, ap, ◌∙◌}
use mathlib.Core.Logic.{◌⊎◌, inl, inr, ◌↔◌}
use mathlib.Core.List.{List, ◌∷◌}
use mathlib.Core.Bool.{Bool, true, false}
use native.Mathlib.Omega.{arith}
use borrow.Author.Tests.{ltb-true, ltb-false, le-ltb}
use lib.Dec.{ltb}
use lib.ListN.{length, drop}
use Rattle.common.specs.Reply.{Reply, given, refused, Fault, unless}
use Rattle.common.proofs.Bools.{by_cases, true-false, true-of-not-false}
use Rattle.common.proofs.Reply.{Clear, unless-clear, unless-first, unless-later, given-clear}
use Rattle.sheet.specs.Record.{word, record_at, part}
use Rattle.sheet.specs.Amend.{Draft}
use Rattle.sheet.specs.Valid.{Valid}
use Rattle.sheet.specs.Faults.{faults_of}
use Rattle.sheet.specs.Faulty.{Kind, written, Whole, Bodied, Known, InPlace, MachineRight, RecordRight}
use Rattle.sheet.specs.Faulty.{ModesRight, NeedsRight, CommandFits}
use Rattle.sheet.specs.Faulty.{Faulty, cut_short, unknown, misplaced}
use Rattle.sheet.specs.Faulty.{bad-machine, bad-modes, bad-needs, bad-command, unamendable}
use Rattle.sheet.specs.Parse.{Progress, Turn, turn_at, turn_of}
use Rattle.sheet.proofs.Records.{whole_here, cut_short as cut-here}
use Rattle.sheet.proofs.Row.{row, same_row}
use Rattle.sheet.proofs.Causes.{is-kind, is-either}
use Rattle.sheet.proofs.Causes.{known-means, placed-means, machine-means, modes-mean, needs-mean, command-means}
use Rattle.sheet.proofs.Amendable.{amendable-means}

-- a test that is false exactly if words hold tells whether they do
told : {W C : Type 0} (t : Bool) → (t ≡ false) ↔ W → ((W → ⊥) → C) → (W → C) → C
told t e wrong right = by_cases t (λ b. wrong (λ w. true-false b (e.1 w))) (λ b. right (e.0 b))

fails : {W : Type 0} {t : Bool} → (t ≡ false) ↔ W → (W → ⊥) → t ≡ true
fails e wrong = true-of-not-false (λ f. wrong (e.0 f))

-- and a test of some kinds alone
module _ {K W : Type 0} {a t : Bool} (kind : (a ≡ true) ↔ K) (e : (t ≡ false) ↔ (K → W)) where
  of-kind : ((K → W) → ⊥) → K
  of-kind wrong = by_cases a kind.0 (λ f. absurd (wrong (λ k. absurd (true-false (kind.1 k) f))))

  told_of : {C : Type 0} → (K → (W → ⊥) → C) → ((K → W) → C) → C
  told_of wrong right = told t e (λ f. wrong (of-kind f) (λ w. f (λ k. w))) right

module _ (s : List ℕ) (at : ℕ) where
  whole-means : (ltb (length s) (at + 4 + word s at) ≡ false) ↔ Whole s at
  whole-means = (λ f. ltb-false _ _ f, λ w. le-ltb (length s) (at + 4 + word s at) w)

  no-machine : Bodied s at → Kind s at 1 → MachineRight s at
  no-machine (inl k) e = absurd (let f : ⊥ = omega arith in f)
  no-machine (inr k) e = absurd (let f : ⊥ = omega arith in f)

module _ (s : List ℕ) (at : ℕ) (x : Draft) (ok : Valid x.sent) where
  abbrev kind : ℕ
  kind = word s (at + 2)

  abbrev body : List ℕ
  body = part s (at + 4) (word s at)

  -- 6, 7 and 8
  abbrev Modes : Type 0
  Modes = ModesRight x.sent (written s at)

  abbrev Needs : Type 0
  Needs = NeedsRight x.sent (written s at)

  abbrev BodyRight : Type 0
  BodyRight = Bodied s at → Modes × Needs × CommandFits s at x

  -- it is right, or faulty
  abbrev pub Judged : Type 0
  Judged = ((n : ℕ) × Faulty s at x n) ⊎ RecordRight s at x

  judged-known : Whole s at → Known s at → InPlace s at x → Judged
  judged-known w known placed =
      let move = is-either kind 2 4 in
      told_of (is-kind kind 1) (machine-means s at known)
      (λ k wrong. inl (5, bad-machine refl k w known placed wrong)) (λ machine.
      told_of move (modes-mean s at x) (λ k wrong. inl (6, bad-modes refl k w known placed wrong)) (λ modes.
      told_of move (needs-mean s at x ok)
      (λ k wrong. inl (7, bad-needs refl k w known placed (modes k) wrong)) (λ needs.
      told_of move (command-means s at x)
      (λ k wrong. inl (8, bad-command refl k w known placed (modes k) (needs k) wrong)) (λ command.
      let right : BodyRight = λ k. (modes k, needs k, command k) in
      told _ (amendable-means s at x known)
      (λ wrong. inl (21, unamendable refl w known placed machine right wrong)) (λ fits.
      inr
      (record { whole = w; known = known; in_place = placed; machine = machine; move = right; amendable = fits }))))))

  pub judged : Judged
  judged =
      told _ (whole-means s at) (λ wrong. inl (1, cut_short refl wrong)) (λ w.
      told _ (known-means s at w) (λ wrong. inl (2, unknown refl w wrong)) (λ known.
      told _ (placed-means s at x) (λ wrong. inl (4, misplaced refl w known wrong)) (λ placed.
      judged-known w known placed)))

  abbrev causes : List Fault
  causes = row x at kind body

  -- words rule out the first causes of the row, whatever there is to give
  module _ {A : Type 0} (r : Reply A) (w : Whole s at) (known : Known s at) where
    abbrev Past : ℕ → Type 0
    Past n = unless causes r ≡ unless (drop n causes) r

    past_two : Past 1
    past_two = unless-later _ _ r ((known-means s at w).1 known)

    module _ (placed : InPlace s at x) where
      past-four : Past 2
      past-four = past_two ∙ unless-later _ _ r ((placed-means s at x).1 placed)

      past-five : (Kind s at 1 → MachineRight s at) → Past 3
      past-five machine = past-four ∙ unless-later _ _ r ((machine-means s at known).1 machine)

      past-six : (Kind s at 1 → MachineRight s at) → (Bodied s at → Modes) → Past 4
      past-six machine modes = past-five machine ∙ unless-later _ _ r ((modes-mean s at x).1 modes)

      past-seven : (Kind s at 1 → MachineRight s at) → (Bodied s at → Modes) → (Bodied s at → Needs) → Past 5
      past-seven machine modes needs = past-six machine modes ∙ unless-later _ _ r ((needs-mean s at x ok).1 needs)

      past-eight : (Kind s at 1 → MachineRight s at) → BodyRight → Past 6
      past-eight machine right =
          past-seven machine (λ k. (right k).0) (λ k. (right k).1)
          ∙ unless-later _ _ r ((command-means s at x).1 (λ k. (right k).2))

  -- a right one has no cause
  pub right-clear : RecordRight s at x → Clear (faults_of x at kind body)
  right-clear r =
      given-clear (faults_of x at kind body) (given at)
      (same_row x at kind body (given at)
      ∙ past-eight (given at) r.whole r.known r.in_place r.machine r.move
      ∙ unless-clear _ _ ((amendable-means s at x r.known).1 r.amendable, tt))

-- a faulty one refuses by its number, at its place
module _ (s : List ℕ) (at : ℕ) (d : Progress) (ok : Valid d.draft.sent) where
  abbrev x : Draft
  x = d.draft

  -- by the first cause of the row that is not passed
  by_row : (f : Fault) (fs : List Fault) → Whole s at
      → ((r : Reply Turn) → unless (causes s at x ok) r ≡ unless (f ∷ fs) r) → f.applies ≡ true
      → turn_of s at d (record_at s at) ≡ refused f.number f.place
  unfolding turn_at
  by_row f fs w past applies =
      ap (turn_of s at d) (whole_here s at w) ∙ same_row x at _ _ _ ∙ past _ ∙ unless-first f fs _ applies

  pub faulty-turn : {n : ℕ} → Faulty s at x n → turn_of s at d (record_at s at) ≡ refused n at
  faulty-turn (cut_short e wrong) =
      rw e (ap (turn_of s at d) (cut-here s at (ltb-true _ _ (fails (whole-means s at) wrong))))
  faulty-turn (unknown e w wrong) = rw e (by_row _ _ w (λ r. refl) (fails (known-means s at w) wrong))
  faulty-turn (misplaced e w known wrong) =
      rw e (by_row _ _ w (λ r. past_two s at x ok r w known) (fails (placed-means s at x) wrong))
  faulty-turn (bad-machine e k w known placed wrong) =
      rw e
      (by_row _ _ w (λ r. past-four s at x ok r w known placed) (fails (machine-means s at known) (λ h. wrong (h k))))
  faulty-turn (bad-modes e k w known placed wrong) =
      rw e
      (by_row _ _ w (λ r. past-five s at x ok r w known placed (no-machine s at k))
      (fails (modes-mean s at x) (λ h. wrong (h k))))
  faulty-turn (bad-needs e k w known placed modes wrong) =
      rw e
      (by_row _ _ w (λ r. past-six s at x ok r w known placed (no-machine s at k) (λ k. modes))
      (fails (needs-mean s at x ok) (λ h. wrong (h k))))
  faulty-turn (bad-command e k w known placed modes needs wrong) =
      rw e
      (by_row _ _ w (λ r. past-seven s at x ok r w known placed (no-machine s at k) (λ k. modes) (λ k. needs))
      (fails (command-means s at x) (λ h. wrong (h k))))
  faulty-turn (unamendable e w known placed machine right wrong) =
      rw e
      (by_row _ _ w (λ r. past-eight s at x ok r w known placed machine right) (fails (amendable-means s at x known) wrong))
