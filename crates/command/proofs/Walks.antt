-- The walk's lines are those of obeying, to the end: its turns suffice, since every run arrives.
-- Assumes nothing.
use Prim.Native.Nat.{ℕ, zero, suc, ◌+◌, ◌≤◌, ◌<◌, zero-le}
use mathlib.Core.Path.{◌≡◌, refl, sym, ap, subst, ◌∙◌}
use mathlib.Core.List.{List, [], ◌∷◌, ◌++◌}
use mathlib.Core.Bool.{true}
use native.Mathlib.Numerals.{add-one}
use native.Mathlib.Omega.{arith}
use Rattle.common.specs.Reply.{Reply, given, refused, clear, and_then}
use Rattle.common.proofs.Bools.{by_cases, true-false}
use Rattle.common.proofs.Reply.{unless-clear, given-clear, given-not-refused}
use Rattle.common.proofs.Clear.{clear-each, each-clear}
use Rattle.sheet.specs.Parse.{Parsed, parse}
use Rattle.plan.specs.Planning.{plan_reply}
use Rattle.plan.specs.Reading.{bound_in}
use Rattle.plan.proofs.Planned.{planned-lawful}
use Rattle.sheet.proofs.Parsed.{parse-valid}
use Rattle.command.specs.Next.{Next, done, command, next_reply, goal_refusals}
use Rattle.command.specs.Covered.{Admitted}
use Rattle.command.specs.Apply.{acting_move, state_by, Applied, apply_reply, state_after}
use Rattle.command.specs.Run.{Lent, lend, ask_reply, Call, ask, apply, none, Situation, begins, pending_of, IsPending, applied_by}
use Rattle.command.specs.Run.{after, after_all, Run}
use Rattle.command.specs.Walk.{Line, Turn, over, obeyed, obey_reply, turn_by, turn_reply, obey, walk_lines}
use Rattle.command.specs.Walking.{turn_told, turn_leaves, lines_by}
use Rattle.command.specs.Walked.{Obeys, arrived, halted, went, WalksRight}
use Rattle.command.proofs.Asking.{done-not-command, refusals-parts}
use Rattle.command.proofs.Admitted.{passes-admitted}
use Rattle.command.proofs.Calls.{after_all-append}
use Rattle.command.proofs.Arrival.{arrival}

-- One turn

-- it goes by what next command replies
pub turn_is : (sheet plan state goal : List ℕ) {r : Reply Next} → next_reply sheet plan state goal ≡ r
    → turn_reply sheet plan state goal ≡ and_then r (turn_by sheet state)
unfolding turn_reply
turn_is sheet plan state goal e = rw e

-- and makes its line
pub obey-turn : (sheet plan goal : List ℕ) (bound n count : ℕ) (state : List ℕ) (r : Reply (Turn Applied))
    → turn_reply sheet plan state goal ≡ r
    → obey sheet plan goal bound (suc n) count state
    ≡ lines_by (turn_told r) count bound (obey sheet plan goal bound n (count + 1) (turn_leaves r state))
unfolding obey
obey-turn sheet plan goal bound n count state (given over) e = rw (e, obey)
obey-turn sheet plan goal bound n count state (given (obeyed i c a)) e = rw (e, obey)
obey-turn sheet plan goal bound n count state (refused number place) e = rw (e, obey)

-- Asking and applying by turns is a run

module _ (lent : Lent) where
  run-append : (s : Situation) (before later : List Call) → Run lent s before
      → Run lent (after_all lent s before) later → Run lent s (before ++ later)
  unfolding after_all
  run-append s [] later r l = l
  run-append s (c ∷ before) later r l = (r.0, run-append (after lent s c) before later r.1 l)

  module _ (s : Situation) {i c : ℕ} (e : ask_reply lent s.state ≡ given (command i c)) where
    turn-run : Run lent s (ask ∷ apply ∷ [])
    unfolding after
    turn-run = (tt, (subst (λ r. IsPending (pending_of r)) (sym e) tt, tt))

    turn-leaves : after_all lent s (ask ∷ apply ∷ [])
        ≡ record {
          state = state_after (apply_reply lent.sheet s.state i c) s.state;
          pending = none;
          applied = suc s.applied;
        }
    unfolding after after_all
    turn-leaves =
        ap (λ p. applied_by lent (record { state = s.state; pending = p; applied = s.applied }) p)
        (ap pending_of e)

module _ (sheet plan goal : List ℕ) (d : Parsed) (parsed : parse sheet ≡ given d) where
  -- a state in which next command gives something passes, and applying is not refused
  passes : (state : List ℕ) {r : Next} → next_reply sheet plan state goal ≡ given r
      → clear (goal_refusals d.model plan state goal) ≡ true
  unfolding next_reply and_then
  passes state e = each-clear _ (given-clear _ _ (rw parsed at e)).1

  applies : (state : List ℕ) {r : Next} (i c : ℕ) → next_reply sheet plan state goal ≡ given r
      → (a : Applied) × (apply_reply sheet state i c ≡ given a)
  unfolding apply_reply and_then
  applies state i c e = (
    record { move = acting_move d.model state i c; state = state_by d.model state i c },
    rw parsed (unless-clear _ _ (clear-each _ (refusals-parts d.model plan state goal (passes state e)).0)),
  )

  abbrev bound : ℕ
  bound = bound_in d.model plan

  -- obeying with n turns from a situation prints what it should
  abbrev Right : ℕ → Situation → Type 0
  Right n s = Obeys sheet plan goal bound s.applied s.state (obey sheet plan goal bound n s.applied s.state)

  -- the lines of a turn
  abbrev lines : (n : ℕ) (s : Situation) (r : Reply (Turn Applied)) → turn_reply sheet plan s.state goal ≡ r
      → obey sheet plan goal bound (suc n) s.applied s.state
      ≡ lines_by (turn_told r) s.applied bound (obey sheet plan goal bound n (s.applied + 1) (turn_leaves r s.state))
  lines n s = obey-turn sheet plan goal bound n s.applied s.state

  step : (n : ℕ) (s : Situation) (r : Reply Next) → next_reply sheet plan s.state goal ≡ r
      → ((i c : ℕ) → r ≡ given (command i c) → Right n (after_all (lend sheet plan goal) s (ask ∷ apply ∷ [])))
      → Right (suc n) s
  unfolding obey_reply and_then
  step n s (given done) e later = rw (lines n s _ (turn_is sheet plan s.state goal e)) (arrived e)
  step n s (refused number place) e later = rw (lines n s _ (turn_is sheet plan s.state goal e)) (halted e)
  step n s (given (command i c)) e later =
      let a = applies s.state i c e in
      let rest = subst (Right n) (turn-leaves (lend sheet plan goal) s e) (later i c refl) in
      rw (lines n s (given (obeyed i c a.0)) (turn_is sheet plan s.state goal e ∙ rw a.1), add-one s.applied)
      (went a.0 e a.1 (rw a.1 at rest))

  -- a run gives a command only while fewer were applied than the bound, so as many turns and one suffice
  module _ (buffer scratch : ℕ) (planned : plan_reply sheet buffer scratch ≡ given plan) (state : List ℕ)
      (admitted : Admitted d.model plan state goal) where
    abbrev now : List Call → Situation
    now before = after_all (lend sheet plan goal) (begins state) before

    below-bound : (before : List Call) → Run (lend sheet plan goal) (begins state) before → (i c : ℕ)
        → next_reply sheet plan (now before).state goal ≡ given (command i c) → (now before).applied < bound
    below-bound before run i c e =
        let asks = run-append (lend sheet plan goal) (begins state) before (ask ∷ []) run (tt, tt) in
        ((arrival (lend sheet plan goal) state buffer scratch d (before ++ (ask ∷ [])) parsed planned admitted asks
        ).asking before [] refl).within-bound i c e

    obeys : (n : ℕ) (before : List Call) → Run (lend sheet plan goal) (begins state) before → (now before).applied ≤ bound
        → bound < (now before).applied + n → Right n (now before)
    obeys zero before run most enough = absurd (let f : ⊥ = omega arith in f)
    obeys (suc n) before run most enough =
        step n (now before) (next_reply sheet plan (now before).state goal) refl (λ i c e.
        let less = below-bound before run i c e in
        let turn = turn-run (lend sheet plan goal) (now before) e in
        let both = after_all-append (lend sheet plan goal) (begins state) before (ask ∷ apply ∷ []) in
        let count : (now (before ++ (ask ∷ apply ∷ []))).applied ≡ suc (now before).applied
        = ap (λ s. s.applied) (both ∙ turn-leaves (lend sheet plan goal) (now before) e) in
        subst (Right n) both
        (obeys n (before ++ (ask ∷ apply ∷ []))
        (run-append (lend sheet plan goal) (begins state) before (ask ∷ apply ∷ []) run turn)
        (omega arith) (omega arith)))

  walks : (buffer scratch : ℕ) → plan_reply sheet buffer scratch ≡ given plan → (state : List ℕ)
      → Right (suc bound) (begins state)
  unfolding after_all
  walks buffer scratch planned state =
      let tables = (planned-lawful sheet plan buffer scratch d parsed planned).tables in
      let parts = refusals-parts d.model plan state goal in
      by_cases (clear (goal_refusals d.model plan state goal))
      (λ t. obeys buffer scratch planned state
      (passes-admitted d.model (parse-valid sheet parsed) plan tables.shaped tables.byte-entries state goal
      (parts t).0 (parts t).1 (parts t).2)
      (suc bound) [] tt zero-le (omega arith))
      (λ f. step bound (begins state) (next_reply sheet plan state goal) refl (λ i c e.
      absurd (true-false (passes state e) f)))

-- no other lines are those of obeying
module _ (sheet plan goal : List ℕ) (bound : ℕ) where
  obeys-one : {count : ℕ} {state : List ℕ} {a b : List Line} → Obeys sheet plan goal bound count state a
      → Obeys sheet plan goal bound count state b → a ≡ b
  obeys-one (arrived e) (arrived f) = refl
  obeys-one (arrived e) (halted f) = absurd (given-not-refused (sym e ∙ f))
  obeys-one (arrived e) (went a f g rest) = absurd (done-not-command (sym e ∙ f))
  obeys-one (halted e) (arrived f) = absurd (given-not-refused (sym f ∙ e))
  obeys-one (halted e) (halted f) = cc
  obeys-one (halted e) (went a f g rest) = absurd (given-not-refused (sym f ∙ e))
  obeys-one (went a e g rest) (arrived f) = absurd (done-not-command (sym f ∙ e))
  obeys-one (went a e g rest) (halted f) = absurd (given-not-refused (sym e ∙ f))
  obeys-one (went {i = i} {c} a e g rest) (went {i = j} {c = k} b f h more) =
      let same-machine : i ≡ j = cc in
      let same_byte : c ≡ k = cc in
      let same : b ≡ a = cc in
      let later = obeys-one rest (rw same at more) in
      cc

pub walks-right : WalksRight
unfolding walk_lines and_then
walks-right sheet state goal =
    record {
      unmeasured = λ n p e. rw e;
      unplanned = λ n p k e q. rw (e, q);
      obeyed = λ k plan d e q parsed. rw (e, q, parsed) (walks sheet plan goal d parsed k 512 q state);
      alone = λ k plan d lines e q parsed o.
          rw (e, q, parsed) (obeys-one sheet plan goal _ o (walks sheet plan goal d parsed k 512 q state));
    }
