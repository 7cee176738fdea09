-- A command acts by the move that answers it and by no other, and applying leaves the state that this move makes.
-- Assumes nothing.
use Prim.Native.Nat.{ℕ}
use mathlib.Core.Path.{◌≡◌, sym, ap, subst, ◌∙◌}
use mathlib.Core.Logic.{◌⊎◌, inl, inr, ⊎_elim}
use mathlib.Core.List.{List}
use mathlib.Core.Bool.{true, false}
use native.Mathlib.Omega.{arith}
use borrow.Author.Tests.{lt-ltb, ne_eqb}
use lib.Dec.{ltb}
use Rattle.common.specs.Lists.{up_to, any}
use Rattle.common.specs.Reply.{given, clear, unless, and_then}
use Rattle.common.proofs.Bools.{by_cases, true-false}
use Rattle.common.proofs.Lists.{any-intro}
use Rattle.common.proofs.Members.{up_to-mem, up_to-below}
use Rattle.common.proofs.Search.{find-holds, find-mem, find_none}
use Rattle.common.proofs.Reply.{unless-clear}
use Rattle.common.proofs.Clear.{clear-each}
use Rattle.sheet.specs.Model.{Model, machine_count, move_count, move_at}
use Rattle.sheet.specs.Valid.{Valid}
use Rattle.sheet.specs.Parse.{Parsed, parse}
use Rattle.sheet.proofs.Parsed.{parse-valid}
use Rattle.command.specs.State.{mode_of, tag_of, with_mode, state_faults}
use Rattle.command.specs.Apply.{Answers, Applied, Effect, acts, acting_move, state_by, applied_by, effect_of, effect_reply, apply_reply}
use Rattle.command.specs.Applying.{EffectRight, ApplyRight, AppliesRight, StateLeft}
use Rattle.command.proofs.Shape.{Sound, sound-state}
use Rattle.command.proofs.States.{mode-there, mode-elsewhere, tag-kept}
use Rattle.command.proofs.Acts.{acts-answers, answers-acts, answers-same, acting-only}

module _ (m : Model) (state : List ℕ) (machine command : ℕ) where
  -- the move that is found answers, or none does
  pub found-or-none : Answers m state machine command (acting_move m state machine command)
      ⊎ ((acting_move m state machine command ≡ 255) × ((v : ℕ) → Answers m state machine command v → ⊥))
  unfolding acting_move
  found-or-none =
      let p = acts m state machine command in
      let moves = up_to (move_count m) in
      by_cases (any p moves)
      (λ some. inl (acts-answers m state machine command _ (up_to-below (move_count m) (find-mem p moves 255 some)) (find-holds p moves 255 some)))
      (λ none. inr (
        find_none p moves 255 none,
        λ v a. true-false (any-intro p (up_to-mem a.there) (answers-acts m state machine command v a)) none,
      ))

  -- what is left by a move that answers, and where none does
  module _ (valid : Valid m) {v : ℕ} (answer : Answers m state machine command v) where
    answer-acts : acting_move m state machine command ≡ v
    answer-acts = acting-only m valid state machine command v answer.there (answers-acts m state machine command v answer)

    pub answer-moves : state_by m state machine command ≡ with_mode state machine (move_at m v).to
    unfolding state_by
    answer-moves = rw (answer-acts, ne_eqb v 255 (omega (arith, answer.there, valid.few-moves)))

    answer-there : Sound m state → mode_of (with_mode state machine (move_at m v).to) machine ≡ (move_at m v).to
    answer-there sound =
        mode-there state machine (move_at m v).to (machine_count m) sound.long
        (rw (← answer.its-machine) (valid.moves-valid v answer.there).present)

    -- a move leads to another mode than it starts from
    answer-changes : Sound m state → state_by m state machine command ≡ state → ⊥
    answer-changes sound e =
        (valid.moves-valid v answer.there).moves-on
        (answer.its-from ∙ sym (ap (λ s. mode_of s machine) (sym answer-moves ∙ e)) ∙ answer-there sound)

  pub none_moves : acting_move m state machine command ≡ 255 → state_by m state machine command ≡ state
  unfolding state_by
  none_moves e = rw e

-- what applying replies to a sheet that passes
pub apply-reply : (sheet state : List ℕ) (machine command : ℕ) (d : Parsed) → parse sheet ≡ given d
    → apply_reply sheet state machine command
    ≡ unless (state_faults d.model state)
    (given (record {
      move = acting_move d.model state machine command;
      state = state_by d.model state machine command;
    }))
unfolding apply_reply and_then
apply-reply sheet state machine command d parses = rw parses

-- a state that passes 13
module _ (sheet state : List ℕ) (machine command : ℕ) (d : Parsed) (parses : parse sheet ≡ given d)
    (passes : clear (state_faults d.model state) ≡ true) where
  abbrev m : Model
  m = d.model

  valid : Valid m
  valid = parse-valid sheet parses

  sound : Sound m state
  sound = sound-state m state passes

  abbrev found : ℕ
  found = acting_move m state machine command

  apply-given : apply_reply sheet state machine command
      ≡ given (record { move = found; state = state_by m state machine command })
  apply-given =
      apply-reply sheet state machine command d parses ∙ unless-clear _ _ (clear-each (state_faults m state) passes)

  gives : {a : Applied} → apply_reply sheet state machine command ≡ given a
      → a ≡ record { move = found; state = state_by m state machine command }
  gives e = let r = apply-given in cc

  tells : (e : Effect) → effect_reply (apply_reply sheet state machine command) ≡ given e
      → effect_of (applied_by m state machine command) ≡ e
  tells e h = let r = ap effect_reply apply-given in cc

  other-stays : (i : ℕ) → (i ≡ machine → ⊥) → mode_of (state_by m state machine command) i ≡ mode_of state i
  other-stays i n =
      ⊎_elim
      (λ f. rw (answer-moves m state machine command valid f) (mode-elsewhere state machine _ i n))
      (λ f. rw (none_moves m state machine command f.0))
      (found-or-none m state machine command)

  -- 255 is no move
  found-small : Answers m state machine command found → ltb found 255 ≡ true
  found-small f = lt-ltb found 255 (omega (arith, f.there, valid.few-moves))

  none-large : found ≡ 255 → ltb found 255 ≡ false
  none-large e = rw e

  effect-right : EffectRight m state (state_by m state machine command) machine command (effect_of (applied_by m state machine command))
  effect-right =
      ⊎_elim
      (λ f. record {
        changed-exactly = (λ t. answer-changes m state machine command valid f sound, λ c. found-small f);
        the-move = λ t. (f, λ v a. answers-same m valid state machine command a f);
        no_move = λ t. absurd (true-false (found-small f) t);
      })
      (λ f. record {
        changed-exactly = (
          λ t. absurd (true-false t (none-large f.0)),
          λ c. absurd (c (none_moves m state machine command f.0)),
        );
        the-move = λ t. absurd (true-false t (none-large f.0));
        no_move = λ t. f;
      })
      (found-or-none m state machine command)

  idle : ((v : ℕ) → Answers m state machine command v → ⊥)
      → apply_reply sheet state machine command ≡ given (record { move = 255; state = state })
  idle none =
      ⊎_elim
      (λ f. absurd (none _ f))
      (λ f. apply-given ∙ rw (none_moves m state machine command f.0, f.0))
      (found-or-none m state machine command)

  tag_stays : (i : ℕ) → tag_of (state_by m state machine command) i ≡ tag_of state i
  tag_stays i =
      ⊎_elim
      (λ f. rw (answer-moves m state machine command valid f) (tag-kept state machine _ i))
      (λ f. rw (none_moves m state machine command f.0))
      (found-or-none m state machine command)

  apply-right : ApplyRight d.model sheet state machine command
  apply-right =
      record {
        replied = (_, apply-given);
        acted = λ v a answer e. (
          ap (λ x. x.move) (gives e) ∙ answer-acts m state machine command valid answer,
          ap (λ x. mode_of x.state machine) (gives e)
              ∙ rw (answer-moves m state machine command valid answer)
              (answer-there m state machine command valid answer sound),
        );
        others = λ i a e n. ap (λ x. mode_of x.state i) (gives e) ∙ other-stays i n;
        tags = λ i a e. ap (λ x. tag_of x.state i) (gives e) ∙ tag_stays i;
        tagged = λ n. idle (λ v a. n a.no-tag);
        idle = idle;
        told = λ e h.
            rw apply-given (subst (EffectRight m state (state_by m state machine command) machine command) (tells e h) effect-right);
      }

pub applies-right : AppliesRight
applies-right = apply-right

pub state-left : (sheet state : List ℕ) (machine command : ℕ) → StateLeft sheet state machine command
state-left sheet state machine command = record { written = λ a e. rw e; kept = λ n p e. (rw e, rw e) }
