-- Demand 3 for any plan that has the laws of plan/specs/Laws.antt: every run keeps the promise.
-- Assumes nothing.
use Prim.Native.Nat.{ℕ, ◌≤◌}
use mathlib.Core.Path.{◌≡◌, sym, subst}
use mathlib.Core.List.{List, [], ◌∷◌, ◌++◌, append-nil}
use native.Mathlib.Omega.{arith}
use Rattle.common.specs.Reply.{given}
use Rattle.sheet.specs.Valid.{Valid}
use Rattle.sheet.specs.Parse.{Parsed, parse}
use Rattle.plan.specs.Reading.{bound_in}
use Rattle.plan.specs.Shown.{usable_in}
use Rattle.plan.specs.Laws.{PlanLaws}
use Rattle.command.specs.State.{tag_of}
use Rattle.command.specs.Covered.{Admitted}
use Rattle.command.specs.Run.{Lent, Call, ask, apply, Situation, begins, after_all, Run}
use Rattle.sheet.proofs.Parsed.{parse-valid}
use Rattle.plan.proofs.Planned.{planned-lawful}
use Rattle.command.specs.Arrival.{Arrival, ArrivalOfLaws, AsWishedFrom, Reached, Asked, Moved, Promise}
use Rattle.command.proofs.TurnedDown.{goal-passes}
use Rattle.command.proofs.Safe.{safe-laws}
use Rattle.command.proofs.Answers
use Rattle.command.proofs.Answers.{Ground, KeptFor}
use Rattle.command.proofs.Calls
use Rattle.command.proofs.Calls.{Keeps, pending-some, after_all-append}

module _ {lent : Lent} {d : Parsed} {Usable : ℕ → Type 0} {longest cost : ℕ → ℕ}
    (ground : Ground lent d Usable longest cost) (state : List ℕ)
    (admitted : Admitted d.model lent.plan state lent.goal) (calls : List Call)
    (run : Run lent (begins state) calls) where
  -- the situation after some calls from the beginning
  abbrev now : List Call → Situation
  now before = after_all lent (begins state) before

  start : KeptFor lent d Usable cost (begins state)
  start = Answers.kept-begins ground state admitted

  through : (before later : List Call) → calls ≡ before ++ later
      → Keeps lent d Usable cost (begins state) (now before)
      × Run lent (now before) later
  through before later e =
      Calls.keeps-all ground start before later
      (subst (Run lent (begins state)) e run)

  asking : (before later : List Call) → calls ≡ before ++ (ask ∷ later) → Asked lent d.model (now before)
  asking before later e =
      Answers.asked ground (through before (ask ∷ later) e).0.kept

  applying : (before later : List Call) → calls ≡ before ++ (apply ∷ later)
      → Moved lent d.model (now before)
  applying before later e =
      let t = through before (apply ∷ later) e in
      let p = pending-some (now before).pending t.1.0 in
      Answers.moved ground t.0.kept p.0 p.1 p.2

  within : (now calls).applied ≤ bound_in d.model lent.plan
  within = omega (arith, (through calls [] (sym (append-nil calls))).0.kept.within)

  arrives : (before later : List Call) → calls ≡ before ++ later → bound_in d.model lent.plan ≤ (now before).applied
      → Reached lent d.model (now before).state
  arrives before later e h = Answers.bound-reached ground (through before later e).0.kept h

  stays : (before between later : List Call) → calls ≡ before ++ (between ++ later) → (g : ℕ)
      → AsWishedFrom lent d.model (now before).state g
      → AsWishedFrom lent d.model (now (before ++ between)).state g
  stays before between later e g w =
      let t = through before (between ++ later) e in
      let r = Calls.keeps-all ground t.0.kept between later t.1 in
      subst (λ s. AsWishedFrom lent d.model s.state g)
      (sym (after_all-append lent (begins state) before between)) (r.0.wished g w)

  tags-stay : (before later : List Call) → calls ≡ before ++ later → (i : ℕ)
      → tag_of (now before).state i ≡ tag_of state i
  tags-stay before later e i = (through before later e).0.same-tags i

  pub promised : Promise lent d.model (begins state) calls
  promised =
      record {
        asking = asking;
        applying = applying;
        within = within;
        arrives = arrives;
        stays = stays;
        tags-stay = tags-stay;
      }

pub arrival-of-laws :
    (lent : Lent) (state : List ℕ) (d : Parsed) (Usable : ℕ → Type 0) (longest cost : ℕ → ℕ)
    → parse lent.sheet ≡ given d → Valid d.model
    → PlanLaws d.model lent.plan (usable_in d.model lent.plan) Usable longest cost
    → Admitted d.model lent.plan state lent.goal
    → (calls : List Call) → Run lent (begins state) calls
    → Promise lent d.model (begins state) calls
arrival-of-laws lent state d Usable longest cost parsed valid laws admitted calls run =
    promised (record {
      parsed = parsed;
      valid = valid;
      laws = record { tables = laws.tables; safe = safe-laws valid laws.tables laws.routes; costs = laws.costs };
      fine = (goal-passes d.model lent.goal).1 admitted.goal-fits;
    }) state admitted calls run

-- demand 3, of the plan that planning wrote
pub arrival : Arrival
arrival lent state buffer scratch d calls parsed planned admitted run =
    arrival-of-laws lent state d _ _ _ parsed (parse-valid lent.sheet parsed)
    (planned-lawful lent.sheet lent.plan buffer scratch d parsed planned) admitted calls run

pub arrival-by-laws : ArrivalOfLaws
arrival-by-laws lent state d usable longest cost calls parsed laws admitted run =
    arrival-of-laws lent state d _ longest cost parsed (parse-valid lent.sheet parsed) laws admitted calls run
