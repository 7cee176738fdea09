-- What applying a command answers and leaves, by the move that is found: none, or one that answers.
-- Assumes nothing.
use Prim.Native.Nat.{ℕ, ◌*◌, ◌<◌}
use mathlib.Core.Path.{◌≡◌, sym, ap, ◌∙◌}
use mathlib.Core.Logic.{⊎_elim}
use mathlib.Core.List.{List}
use mathlib.Core.Bool.{true, false}
use native.Mathlib.Omega.{arith}
use borrow.Author.Tests.{lt-ltb}
use lib.Dec.{ltb}
use lib.ListN.{length, get_or, take}
use Rattle.std.specs.Prelude.{Result, Err}
use Rattle.common.specs.Reply.{Reply, given, refused, clear, unless}
use Rattle.common.proofs.Reply.{unless-clear}
use Rattle.common.proofs.Clear.{clear-each}
use Rattle.sheet.specs.declared.index.Sheet.{Sheet}
use Rattle.sheet.specs.declared.refusal.Refusal.{Refusal}
use Rattle.sheet.specs.Refusal.{number_of, verdict_says}
use Rattle.sheet.specs.Record.{byte, body_at}
use Rattle.sheet.specs.Model.{Model, move_at, move_of}
use Rattle.sheet.specs.Kept.Indexed.{Indexes}
use Rattle.sheet.proofs.Indexed.{indexes-valid, indexes-listed, listed-long, listed-move}
use Rattle.command.specs.State.{with_mode, state_faults}
use Rattle.command.specs.Apply.{Answers, Applied, Effect, acting_move, state_by, applied_by, effect_reply, apply_reply, state_after}
use Rattle.command.proofs.Shape.{sound-state}
use Rattle.command.proofs.Applying.{found-or-none, answer-moves, none_moves, apply-reply}
use Rattle.command.proofs.Verdicts.{refused-unless}

-- `act`: v is the move that is found
module _ {file : List ℕ} {x : Sheet} {m : Model} (i : Indexes file x m) (state : List ℕ) (machine command : ℕ) {v : ℕ}
    (e : v ≡ acting_move m state machine command) where
  -- what is told of a move, 255 for none
  abbrev told : ℕ → Reply Effect
  told n = given (record { changed = ltb n 255; move = n })

  pub acted-none : v ≡ 255
      → given (record { changed = false; move = 255 }) ≡ effect_reply (given (applied_by m state machine command))
  acted-none z = ap told (sym z ∙ e)

  pub left-none : v ≡ 255 → state ≡ state_by m state machine command
  left-none z = sym (none_moves m state machine command (sym e ∙ z))

  abbrev places : List ℕ
  places = take x.moves x.places

  module _ (inside : v < length places) where
    some : v ≡ 255 → ⊥
    some z = let f : ⊥ = omega (arith, (indexes-listed i).one_each, (indexes-valid i).few-moves) in f

    acted-answers : Answers m state machine command v
    acted-answers = rw e (⊎_elim (λ f. f) (λ f. absurd (some (e ∙ f.0))) (found-or-none m state machine command))

    acted-place : {w : ℕ} → w ≡ v → w < length places
    acted-place q = omega arith

    pub acted-long : {w : ℕ} {body : List ℕ} → w ≡ v → body ≡ body_at file (get_or places w 0) → 3 < length body
    acted-long q b = listed-long (indexes-listed i) (acted-place q) b

    pub acted-within : clear (state_faults m state) ≡ true → 2 * machine < length state
    acted-within h =
        omega (
          arith,
          (sound-state m state h).long,
          acted-answers.its-machine,
          ((indexes-valid i).moves-valid v acted-answers.there).present,
        )

    pub acted-some :
        given (record { changed = true; move = v }) ≡ effect_reply (given (applied_by m state machine command))
    acted-some =
        let below = lt-ltb v 255 (omega (arith, acted-answers.there, (indexes-valid i).few-moves)) in
        ap (λ b. given (record { changed = b; move = v })) (sym below) ∙ ap told e

    pub left-some : {w : ℕ} {body after : List ℕ} → w ≡ v → body ≡ body_at file (get_or places w 0)
        → after ≡ with_mode state machine (byte body 2) → after ≡ state_by m state machine command
    unfolding move_of
    left-some {w} {body} q b l =
        let moves = answer-moves m state machine command (indexes-valid i) acted-answers in
        let to : byte body 2 ≡ (move_at m v).to =
        ap (λ u. u.to) (listed-move (indexes-listed i) (acted-place q) b) ∙ ap (λ k. (move_at m k).to) q in
        l ∙ (ap (with_mode state machine) to ∙ sym moves)

-- `test`: 13 first
module _ (m : Model) (state : List ℕ) (machine command : ℕ) where
  abbrev tested : Reply Applied
  tested = unless (state_faults m state) (given (applied_by m state machine command))

  module _ (passes : clear (state_faults m state) ≡ true) where
    accepted-is : tested ≡ given (applied_by m state machine command)
    accepted-is = unless-clear _ _ (clear-each _ passes)

    pub accepted-says : {b : Reply Effect} → b ≡ effect_reply (given (applied_by m state machine command))
        → b ≡ effect_reply tested
    accepted-says h = h ∙ sym (ap effect_reply accepted-is)

    pub accepted-leaves : {after : List ℕ} → after ≡ state_by m state machine command → after ≡ state_after tested state
    accepted-leaves h = h ∙ sym (ap (λ y. state_after y state) accepted-is)

  module _ {r : Result Unit Refusal} {why : Refusal} (e : verdict_says r ≡ unless (state_faults m state) (given tt))
      (a : r ≡ Err why) where
    refused-is : tested ≡ refused (number_of why.cause) why.place
    refused-is = refused-unless _ e a _

    pub refused_says : refused (number_of why.cause) why.place ≡ effect_reply tested
    refused_says = sym (ap effect_reply refused-is)

    pub refused-leaves : state ≡ state_after tested state
    refused-leaves = sym (ap (λ y. state_after y state) refused-is)

-- `apply`: the sheet first
pub apply-read : {file : List ℕ} {x : Sheet} {m : Model} → Indexes file x m → (state : List ℕ) (machine command : ℕ)
    → apply_reply file state machine command
    ≡ unless (state_faults m state) (given (applied_by m state machine command))
apply-read {file} i state machine command =
    rw i.model (apply-reply file state machine command i.parsed i.passes)
