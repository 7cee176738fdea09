-- Asking and applying in a situation that is kept: what is replied, and what the pending command does.
-- Assumes nothing.
use Prim.Native.Nat.{ℕ, ◌≤◌, zero-le}
use mathlib.Core.Path.{◌≡◌, refl, sym, ap, ◌∙◌}
use mathlib.Core.Logic.{◌↔◌, ◌⊎◌, inl, inr, ⊎_elim}
use mathlib.Core.List.{List}
use mathlib.Core.Bool.{true}
use native.Mathlib.Nat.{le_refl}
use native.Mathlib.Omega.{arith}
use borrow.Author.Tests.{lt-ltb}
use Rattle.common.specs.Reply.{given, clear}
use Rattle.common.proofs.Bools.{true-false}
use Rattle.common.proofs.Clear.{each-clear}
use Rattle.sheet.specs.Model.{machine_count, move_at}
use Rattle.sheet.specs.Valid.{Valid}
use Rattle.sheet.specs.Parse.{Parsed, parse}
use Rattle.plan.specs.Reading.{bound_in}
use Rattle.plan.specs.Shown.{usable_in}
use Rattle.command.specs.State.{mode_of, with_mode}
use Rattle.command.specs.Goal.{goal_faults}
use Rattle.command.specs.Goal.{goal_masks}
use Rattle.command.specs.Attainable.{cover_faults}
use Rattle.command.specs.Covered.{Attains, Safe, Covered, Admitted}
use Rattle.command.specs.Next.{done, command, fulfil}
use Rattle.command.specs.Method.{entry_move, PicksFor}
use Rattle.command.specs.Apply.{Answers, apply_reply, effect_reply}
use Rattle.command.specs.Run.{Lent, ask_reply, some, Situation, begins}
use Rattle.command.specs.Arrival.{Reached, Asked, Moved}
use Rattle.command.proofs.Facts
use Rattle.command.proofs.Facts.{Sound}
use Rattle.command.proofs.States.{mode-there}
use Rattle.command.proofs.Shape.{state-sound}
use Rattle.command.proofs.Wished.{met-wished, wished-met}
use Rattle.command.proofs.Sends
use Rattle.command.proofs.Sends.{Sends}
use Rattle.command.proofs.Asking.{done-not-command, next-fulfils}
use Rattle.command.proofs.TurnedDown.{state-passes}
use Rattle.command.proofs.Targets.{goal-leaves}
use Rattle.command.proofs.Picked.{picks-move}
use Rattle.command.proofs.Kept
use Rattle.command.proofs.Kept.{count, RunLaws, Pends, Kept, to_come-bounded}

-- what a run stands on: a sheet that is read, a plan with the laws, a goal that passes 14
pub record Ground (lent : Lent) (d : Parsed) (Usable : ℕ → Type 0) (longest cost : ℕ → ℕ) : Type 0 where
  pub parsed : parse lent.sheet ≡ given d
  pub valid : Valid d.model
  pub laws : RunLaws d.model lent.plan (usable_in d.model lent.plan) (Safe d.model lent.plan) Usable longest cost
  pub fine : clear (goal_faults d.model lent.goal) ≡ true

-- what a run keeps, by the causes of next command
abbrev pub KeptFor : Lent → Parsed → (ℕ → Type 0) → (ℕ → ℕ) → Situation → Type 0
KeptFor lent d Usable cost = Kept d.model lent (usable_in d.model lent.plan) (Safe d.model lent.plan) Usable cost

module _ {lent : Lent} {d : Parsed} {Usable : ℕ → Type 0} {longest cost : ℕ → ℕ}
    (ground : Ground lent d Usable longest cost) where
  -- the caller's goal is covered exactly where 16 to 18 pass
  covers : (state : List ℕ) → Sound d.model state
      → (clear (cover_faults d.model lent.plan state (goal_masks d.model lent.goal)) ≡ true)
      ↔ Covered d.model lent.plan (usable_in d.model lent.plan) (Attains d.model lent.plan) (Safe d.model lent.plan)
      (goal_masks d.model lent.goal) state (count d.model lent)
  covers state sound =
      let tables = ground.laws.tables in
      Facts.covered-exactly d.model ground.valid lent.plan (usable_in d.model lent.plan) tables.shaped tables.byte-entries state sound _

  -- a run begins kept
  pub kept-begins : (state : List ℕ) → Admitted d.model lent.plan state lent.goal
      → KeptFor lent d Usable cost (begins state)
  kept-begins state a =
      let sound = Facts.sound-state d.model state ((state-passes d.model state).1 a.state-fits) in
      let bounded = to_come-bounded d.model lent ground.valid ground.laws (begins state) sound a.covered in
      record {
        sound = sound;
        covered = a.covered;
        within = omega (arith, bounded);
        pends = λ i c e. absurd (let z : ◌≡◌ {A = ℕ} 0 1 = cc in let f : ⊥ = omega arith in f);
      }

  module _ {s : Situation} (kept : KeptFor lent d Usable cost s) where
    next-is : ask_reply lent s.state
        ≡ fulfil d.model lent.plan s.state (goal_masks d.model lent.goal) (count d.model lent)
    next-is =
        let sound = each-clear _ (state-sound d.model s.state kept.sound) in
        let covered = (covers s.state kept.sound).1 kept.covered in
        next-fulfils lent.sheet lent.plan s.state lent.goal d ground.parsed ground.laws.tables.shaped sound
        ground.fine covered

    -- done and the goal is reached, or the command of a move that is sent
    pub answer :
        ((ask_reply lent s.state ≡ given done) × Reached lent d.model s.state)
        ⊎ ((i : ℕ) × (c : ℕ) × (ask_reply lent s.state ≡ given (command i c))
        × Pends d.model lent Usable s.state i c)
    answer =
        let shaped = ground.laws.tables.shaped in
        ⊎_elim
        (λ r. inl (next-is ∙ r.0, λ k l h. met-wished d.model lent ground.valid shaped _ kept.sound k (r.1 k h)))
        (λ r. inr (
          _,
          _,
          next-is ∙ r.replies,
          record {
            group = r.group;
            move = r.move;
            sent = r.sends;
            asked = next-is ∙ r.replies;
            machine-is = refl;
            byte-is = refl;
          },
        ))
        (Sends.done-or-commanded ground.valid ground.laws.tables ground.laws.safe kept.sound _ (le_refl _) _ kept.covered)

    -- a command that is replied is that of a move that is sent
    pub replied : (i c : ℕ) → ask_reply lent s.state ≡ given (command i c)
        → Pends d.model lent Usable s.state i c
    replied i c e =
        ⊎_elim
        (λ r. absurd (done-not-command (sym r.0 ∙ e)))
        (λ r. let q = sym e ∙ r.2 in
        record {
          group = r.3.group;
          move = r.3.move;
          sent = r.3.sent;
          asked = e;
          machine-is = cc r.3.machine-is;
          byte-is = cc r.3.byte-is;
        })
        answer

    sent-not-reached : {i c : ℕ} → Pends d.model lent Usable s.state i c
        → Reached lent d.model s.state → ⊥
    sent-not-reached p h =
        let top = Kept.highest ground.valid ground.laws kept p.sent in
        let shaped = ground.laws.tables.shaped in
        let met-top = wished-met d.model lent ground.valid shaped _ kept.sound _ (h top.top zero-le top.top_below) in
        true-false met-top top.top-unmet

    done-reached : ask_reply lent s.state ≡ given done → Reached lent d.model s.state
    done-reached e = ⊎_elim (λ r. r.1) (λ r. absurd (done-not-command (sym e ∙ r.2))) answer

    reached-done : Reached lent d.model s.state → ask_reply lent s.state ≡ given done
    reached-done h = ⊎_elim (λ r. r.0) (λ r. absurd (sent-not-reached r.3 h)) answer

    -- after as many commands as the bound the goal is reached
    pub bound-reached : bound_in d.model lent.plan ≤ s.applied → Reached lent d.model s.state
    bound-reached h =
        ⊎_elim (λ r. r.1) (λ r. absurd (
        let less = Kept.sent-within ground.valid ground.laws kept r.3.sent in
        let f : ⊥ = omega arith in f)) answer

    answers-now : {i c : ℕ} → Pends d.model lent Usable s.state i c → (v : ℕ) × Answers d.model s.state i c v
    answers-now p =
        (p.move, rw (p.machine-is, p.byte-is) (Kept.sent-answers ground.valid ground.laws kept p.sent))

    pub asked : Asked lent d.model s
    asked =
        record {
          answered = ⊎_elim (λ r. (done, r.0)) (λ r. (command r.0 r.1, r.2)) answer;
          done-exactly = (done-reached, reached-done);
          finds-needs = λ i c e. answers-now (replied i c e);
          no-tag = λ i c e. (answers-now (replied i c e)).1.no-tag;
          within-bound = λ i c e. Kept.sent-within ground.valid ground.laws kept (replied i c e).sent;
        }

    -- applying the pending command
    pub applies-pending : {i c : ℕ} (p : Pends d.model lent Usable s.state i c)
        → apply_reply lent.sheet s.state i c
        ≡ given (record { move = p.move; state = with_mode s.state i (move_at d.model p.move).to })
    applies-pending p =
        rw (p.machine-is, p.byte-is)
        (Kept.sent-applies ground.valid ground.laws kept p.sent lent.sheet d ground.parsed refl)

    -- the entry by which it was given names its move
    names-pending : {i c : ℕ} (p : Pends d.model lent Usable s.state i c)
        → PicksFor d.model lent.plan s.state lent.goal (entry_move p.move)
    names-pending p =
        picks-move d.model lent.plan s.state ground.valid ground.laws.tables.shaped _ _
        (goal-leaves d.model ground.valid lent.goal ground.fine) p.move
        (Kept.sent-answers ground.valid ground.laws kept p.sent)
        (sym next-is ∙ rw (← p.machine-is, ← p.byte-is) p.asked)

    pub moved : (i c : ℕ) → s.pending ≡ some i c → Moved lent d.model s
    moved i c e =
        let p = kept.pends i c e in
        let here = Kept.sent-present ground.valid ground.laws kept p.sent in
        let from = Kept.sent-from ground.valid ground.laws kept p.sent in
        record {
          machine = i;
          byte = c;
          pends = e;
          asked = p.asked;
          move = p.move;
          named = names-pending p;
          present = here;
          its_own = sym p.machine-is;
          applies = applies-pending p;
          was = ap (mode_of s.state) p.machine-is ∙ from;
          is-now =
              mode-there s.state i _ (machine_count d.model) kept.sound.long
              (omega (arith, p.machine-is, (ground.valid.moves-valid p.move here).present));
          differs = (ground.valid.moves-valid p.move here).moves-on;
          tells =
              ap effect_reply (applies-pending p)
              ∙ ap (λ b. given (record { changed = b; move = p.move }))
              (lt-ltb p.move 255 (omega (arith, here, ground.valid.few-moves)));
        }
