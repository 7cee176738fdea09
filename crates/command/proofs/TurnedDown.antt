-- What a call is turned down for: 13, 14 and the shape of 15, each at its place and in their order; the sheet first.
-- Assumes nothing.
use Prim.Native.Nat.{ℕ, ◌*◌, ◌≤◌, ◌<◌}
use mathlib.Core.Path.{◌≡◌, ap, ◌∙◌}
use mathlib.Core.Logic.{◌↔◌}
use mathlib.Core.List.{List, [], ◌∷◌, ◌++◌, append_assoc}
use mathlib.Core.Bool.{Bool, true, false}
use borrow.Author.Tests.{eqb-false, eq-eqb, ne_eqb, ltb-false, lt-ltb, le-ltb, leb-false, lt-leb}
use lib.Dec.{eqb, leb}
use lib.ListN.{length}
use Rattle.common.specs.Lists.{up_to, any, find}
use Rattle.common.specs.Reply.{Reply, given, refused, Fault, fault, unless, and_then}
use Rattle.common.proofs.Bits.{beyond-small, small-beyond}
use Rattle.common.proofs.Bools.{or-false-left, or-false-right, or-false-intro}
use Rattle.common.proofs.Bools.{true-false, true-of-not-false, false-of-not-true, not-of-true, not_of_false}
use Rattle.common.proofs.Lists.{any-intro, any_none, any-fails}
use Rattle.common.proofs.Members.{up_to-mem, up_to-below}
use Rattle.common.proofs.Search.{find-holds, find-up_to-below, find-up_to-before, find-up_to-is}
use Rattle.common.proofs.Reply.{unless-first, unless-later}
use Rattle.common.proofs.Clear.{clear-each, each-clear, unless-append-clear}
use Rattle.sheet.specs.Record.{byte}
use Rattle.sheet.specs.Model.{Model, machine_count, mode_count}
use Rattle.sheet.specs.Parse.{Parsed, parse}
use Rattle.sheet.proofs.Parsed.{parse-valid}
use Rattle.plan.specs.Groups.{group_count}
use Rattle.plan.specs.Reading.{groups_in, well_shaped}
use Rattle.plan.proofs.Shape.{shapes-right}
use Rattle.command.specs.State.{mode_of, tag_of, bad_pair, state_faults}
use Rattle.command.specs.Goal.{bad_byte, goal_faults}
use Rattle.command.specs.Goal.{goal_masks}
use Rattle.command.specs.Attainable.{cover_faults}
use Rattle.command.specs.Next.{fulfil, goal_refusals, next_reply}
use Rattle.command.specs.Apply.{apply_reply}
use Rattle.command.specs.TurnedDown.{Present, Sensible, StateFits, StatePasses, GoalPasses, FirstWrong}
use Rattle.command.specs.TurnedDown.{FirstFound, TurnedDown, SheetBefore}
use Rattle.command.proofs.States.{mode-place, tag-place}
use Rattle.command.proofs.Shape.{sound-state, state-sound}
use Rattle.command.proofs.Applying.{apply-reply}
use Rattle.command.proofs.Asking.{misshapen-reply, shaped-reply}

-- One machine or byte
module _ (m : Model) where
  pub present-exactly : (state : List ℕ) (i : ℕ) → (bad_pair m state i ≡ false) ↔ Present m state i
  unfolding bad_pair
  present-exactly state i = (
    λ f.
        let absent = leb (mode_count m i) (mode_of state i) in (
          rw (mode-place state i) at (leb-false (mode_count m i) (mode_of state i) (or-false-left absent _ f)),
          rw (tag-place state i) at (leb-false 2 (tag_of state i) (or-false-right absent _ f)),
        ),
    λ p. or-false-intro
        (lt-leb (mode_count m i) (mode_of state i) (rw (mode-place state i) p.0))
        (lt-leb 2 (tag_of state i) (rw (tag-place state i) p.1)),
  )

  sensible-exactly : (goal : List ℕ) (i : ℕ) → (bad_byte m goal i ≡ false) ↔ Sensible m goal i
  unfolding bad_byte
  sensible-exactly goal i = (
    λ f. (
      eqb-false _ _ (or-false-left (eqb (byte goal i) 0) _ f),
      beyond-small _ _ (or-false-right (eqb (byte goal i) 0) _ f),
    ),
    λ s. or-false-intro (ne_eqb _ _ s.0) (small-beyond _ _ s.1),
  )

-- What passes
pub state-passes : StatePasses
state-passes m state = (
  λ h.
      let s = sound-state m state h in (
        s.long,
        λ i l. (rw (← mode-place state i) (s.fits i l), rw (← tag-place state i) (s.tags-fit i l)),
      ),
  λ s. each-clear _ (state-sound m state (record {
    long = s.0;
    fits = λ i l. rw (mode-place state i) (s.1 i l).0;
    tags-fit = λ i l. rw (tag-place state i) (s.1 i l).1;
  })),
)

pub goal-passes : GoalPasses
unfolding goal_faults
goal-passes m goal = (
  λ h.
      let c = clear-each _ h in
      (ltb-false _ _ c.0, λ i l. (sensible-exactly m goal i).0 (any_none _ c.1.0 (up_to-mem l))),
  λ g. each-clear _ (
    le-ltb _ _ g.0,
    (
      any-fails _ (up_to (length goal)) (λ i l. (sensible-exactly m goal i).1 (g.1 i (up_to-below (length goal) l))),
      tt,
    ),
  ),
)

-- a cause that stands at the first wrong of n machines
pub first-wrong-refuses : {A : Type 0} (number : ℕ) (p : ℕ → Bool) {Right : ℕ → Type 0} (n : ℕ) (rest : List Fault) (r : Reply A)
    → ((i : ℕ) → (p i ≡ false) ↔ Right i) → {i : ℕ} → FirstWrong Right n i
    → unless (fault number (find p (up_to n) 0) (any p (up_to n)) ∷ rest) r ≡ refused number i
first-wrong-refuses number p n rest r exactly {i} first =
    let wrong : p i ≡ true = true-of-not-false (λ f. first.wrong ((exactly i).0 f)) in
    unless-first _ rest r (any-intro p (up_to-mem first.below) wrong)
    ∙ ap (refused number) (find-up_to-is p 0 i first.below wrong (λ j l. (exactly j).1 (first.before j l)))

-- where some machine of n is wrong, there is a first
some_first : (p : ℕ → Bool) {Right : ℕ → Type 0} (n : ℕ) → ((i : ℕ) → (p i ≡ false) ↔ Right i)
    → (((i : ℕ) → i < n → Right i) → ⊥) → (i : ℕ) × FirstWrong Right n i
some_first p n exactly fails =
    let some : any p (up_to n) ≡ true = true-of-not-false (λ f. fails (λ i l. (exactly i).0 (any_none p f (up_to-mem l)))) in
    let i = find p (up_to n) 0 in (
      i,
      record {
        below = find-up_to-below p n 0 some;
        wrong = λ r. true-false (find-holds p (up_to n) 0 some) ((exactly i).1 r);
        before = λ j l. (exactly j).0 (find-up_to-before p n 0 some j l);
      },
    )

pub first_found : FirstFound
first_found m bytes = (
  λ e fails. some_first (bad_pair m bytes) (machine_count m) (present-exactly m bytes) (λ each. fails (e, each)),
  λ l fails. some_first (bad_byte m bytes) (length bytes) (sensible-exactly m bytes) (λ each. fails (l, each)),
)

-- 13, with other causes behind it
module _ {A : Type 0} (m : Model) (state : List ℕ) (rest : List Fault) (r : Reply A) where
  pub wrong-length : (length state ≡ 2 * machine_count m → ⊥) → unless (state_faults m state ++ rest) r ≡ refused 13 255
  unfolding state_faults
  wrong-length n = unless-first _ _ r (not_of_false (ne_eqb _ _ n))

  pub wrong-pair : {i : ℕ} → length state ≡ 2 * machine_count m → FirstWrong (Present m state) (machine_count m) i
      → unless (state_faults m state ++ rest) r ≡ refused 13 i
  unfolding state_faults
  wrong-pair e first =
      unless-later _ _ r (not-of-true (eq-eqb _ _ e))
      ∙ first-wrong-refuses 13 (bad_pair m state) (machine_count m) rest r (present-exactly m state) first

-- 14, with other causes behind it
module _ {A : Type 0} (m : Model) (goal : List ℕ) (rest : List Fault) (r : Reply A) where
  pub too_long : machine_count m < length goal → unless (goal_faults m goal ++ rest) r ≡ refused 14 255
  unfolding goal_faults
  too_long l = unless-first _ _ r (lt-ltb _ _ l)

  pub wrong_byte : {i : ℕ} → length goal ≤ machine_count m → FirstWrong (Sensible m goal) (length goal) i
      → unless (goal_faults m goal ++ rest) r ≡ refused 14 i
  unfolding goal_faults
  wrong_byte l first =
      unless-later _ _ r (le-ltb _ _ l)
      ∙ first-wrong-refuses 14 (bad_byte m goal) (length goal) rest r (sensible-exactly m goal) first

-- Next command with a plan in shape: 13, then 14
module _ (sheet plan state goal : List ℕ) (d : Parsed) (parses : parse sheet ≡ given d)
    (shaped : well_shaped d.model plan ≡ true) where
  abbrev m : Model
  m = d.model

  abbrev later : List Fault
  later = cover_faults m plan state (goal_masks m goal)

  judged : next_reply sheet plan state goal
      ≡ unless (state_faults m state ++ (goal_faults m goal ++ later))
      (fulfil m plan state (goal_masks m goal) (group_count (groups_in m plan)))
  unfolding goal_refusals
  judged =
      rw (← append_assoc (state_faults m state) (goal_faults m goal) later)
      (shaped-reply sheet plan state goal d parses shaped)

  pub state-judged : StateFits m state → next_reply sheet plan state goal
      ≡ unless (goal_faults m goal ++ later) (fulfil m plan state (goal_masks m goal) (group_count (groups_in m plan)))
  state-judged fits = judged ∙ unless-append-clear (state_faults m state) _ _ ((state-passes m state).1 fits)

-- every refusal by 13, 14 and the shape of 15
pub turned_down : TurnedDown
unfolding state_faults
turned_down sheet plan state goal machine command d parses bytes =
    let m = d.model in
    let exactly = (shapes-right m plan (parse-valid sheet parses) bytes).exactly in
    let applying = apply-reply sheet state machine command d parses in (
      record {
        shape = λ n. misshapen-reply sheet plan state goal d parses (false-of-not-true (λ t. n (exactly.0 t)));
        state-length = λ s n. judged sheet plan state goal d parses (exactly.1 s) ∙ wrong-length m state _ _ n;
        state-machine = λ i s e w. judged sheet plan state goal d parses (exactly.1 s) ∙ wrong-pair m state _ _ e w;
        goal-length = λ s f l. state-judged sheet plan state goal d parses (exactly.1 s) f ∙ too_long m goal _ _ l;
        goal-byte = λ i s f l w. state-judged sheet plan state goal d parses (exactly.1 s) f ∙ wrong_byte m goal _ _ l w;
      },
      record {
        state-length = λ n. applying ∙ wrong-length m state [] _ n;
        state-machine = λ i e w. applying ∙ wrong-pair m state [] _ e w;
      },
    )

pub sheet-before : SheetBefore
unfolding next_reply apply_reply and_then
sheet-before sheet n p e = (λ plan state goal. rw e, λ state machine command. rw e)
