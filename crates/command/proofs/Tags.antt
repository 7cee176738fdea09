-- Where modes and tags stand; and a command that is sent is answered by a move of the sheet, so its machine has no tag,
-- under any plan: next command replies one only for a covered goal, and what the method picks then answers it.
-- Assumes nothing.
use Prim.Native.Nat.{ℕ}
use mathlib.Core.Path.{◌≡◌, refl, sym, ap, subst, ◌∙◌}
use mathlib.Core.List.{List}
use Rattle.common.specs.Reply.{given}
use Rattle.common.proofs.Bools.{by_cases}
use Rattle.common.proofs.Reply.{given-not-refused, given-clear, and_then-given}
use Rattle.common.proofs.Clear.{each-clear}
use Rattle.sheet.specs.Model.{Model, move_at}
use Rattle.sheet.specs.Parse.{Parsed, parse}
use Rattle.plan.specs.Reading.{well_shaped}
use Rattle.command.specs.Next.{command, next_reply}
use Rattle.command.specs.Apply.{Answers}
use Rattle.command.specs.Method.{Pick, none_unmet, unfit_entry, entry_move, pick_reply, MethodRight, PicksFor}
use Rattle.command.specs.Tags.{LaidOut, NeverTagged}
use Rattle.command.proofs.States.{mode-place, tag-place}
use Rattle.command.proofs.Asking.{done-not-command, refusals-parts, misshapen-reply, shaped-reply}
use Rattle.command.proofs.Picked.{method-right}

pub laid_out : LaidOut
laid_out state i = (mode-place state i, tag-place state i)

-- what is picked is replied, and its entry's move answers it
picked-answers : {sheet plan state goal : List ℕ} (m : Model) (i c : ℕ) (r : MethodRight m sheet plan state goal)
    (p : Pick) → r.pick ≡ p → next_reply sheet plan state goal ≡ given (command i c) → (v : ℕ) × Answers m state i c v
picked-answers m i c r none_unmet q e = absurd (done-not-command (sym (r.replied ∙ ap (pick_reply m) q) ∙ e))
picked-answers m i c r unfit_entry q e = absurd (given-not-refused (sym e ∙ r.replied ∙ ap (pick_reply m) q))
picked-answers {plan = plan} {state} {goal} m i c r (entry_move v) q e =
    let same = sym (r.replied ∙ ap (pick_reply m) q) ∙ e in
    let machine : i ≡ (move_at m v).machine = cc in
    let byte : c ≡ (move_at m v).command = cc in
    (v, rw (machine, byte) (r.answers v (subst (PicksFor m plan state goal) q r.picked)))

-- a command that is sent, and the move that answers it
pub record Sent (sheet state : List ℕ) (i c : ℕ) : Type 0 where
  pub read : Parsed
  pub passes : parse sheet ≡ given read
  pub move : ℕ
  pub answers : Answers read.model state i c move

pub sent-answered : (sheet plan state goal : List ℕ) {i c : ℕ} → next_reply sheet plan state goal ≡ given (command i c)
    → Sent sheet state i c
unfolding next_reply
sent-answered sheet plan state goal {i} {c} e =
    let (d, parses, given_by) = and_then-given (parse sheet) _ e in
    by_cases (well_shaped d.model plan)
    (λ shaped.
    let covered = given-clear _ _ (sym (shaped-reply sheet plan state goal d parses shaped) ∙ e) in
    let (fits, fine, covers) = refusals-parts d.model plan state goal (each-clear _ covered) in
    let followed = method-right sheet plan state goal d parses shaped fits fine covers in
    let (v, answers) = picked-answers d.model i c followed _ refl e in
    record { read = d; passes = parses; move = v; answers = answers })
    (λ f. absurd (given-not-refused (sym e ∙ misshapen-reply sheet plan state goal d parses f)))

pub never-tagged : NeverTagged
never-tagged sheet plan state goal i c e =
    rw (← tag-place state i) (sent-answered sheet plan state goal e).answers.no-tag
