-- When every move counted: upstream has only shrunk since, and under the sheet's own plan a goal that was covered is covered and gets
-- the reply that it got.
-- Assumes nothing.
use Prim.Native.Nat.{ℕ, zero, suc}
use mathlib.Core.Path.{◌≡◌, refl, sym, ◌∙◌}
use mathlib.Core.List.{List, [], ◌∷◌}
use mathlib.Core.Bool.{Bool, true, false}
use borrow.Author.Tests.{eqb-true, eqb-false, leb-false, not-false}
use Rattle.common.specs.Reply.{given}
use Rattle.common.proofs.Bools.{by_cases}
use Rattle.common.proofs.Reply.{given-not-refused}
use Rattle.sheet.specs.Model.{Move, Model}
use Rattle.sheet.proofs.Parsed.{parse-valid}
use Rattle.plan.specs.Table.{Entry}
use Rattle.plan.specs.Groups.{group_count}
use Rattle.plan.specs.Reading.{groups_in, entry_at, every_move}
use Rattle.plan.specs.Shown.{usable_in}
use Rattle.plan.proofs.Planned.{planned-lawful}
use Rattle.command.specs.Goal.{Masks, goal_masks, met}
use Rattle.command.specs.Attainable.{groups, present}
use Rattle.command.specs.Covered.{Admitted}
use Rattle.command.specs.Next.{Next, target_of, holds_outside, unfit_with, prepare_by, follow_with, fulfil_with}
use Rattle.command.specs.Run.{lend, ask, after_all}
use Rattle.command.specs.Before.{FewerUpstream, CoveredStill}
use Rattle.command.proofs.Following
use Rattle.command.proofs.Fitness.{none-of-six}
use Rattle.command.proofs.Upstream.{upstream-more}
use Rattle.command.proofs.Admitted.{admitted-passes}
use Rattle.command.proofs.Asking.{next-fulfils}
use Rattle.command.proofs.Arrival.{arrival}

-- What counts by one test counts by another: what is given by the first is given by the second
module _ (m : Model) (plan state : List ℕ) (counts other : ℕ → Bool) (more : (v : ℕ) → counts v ≡ true → other v ≡ true) where
  unfit-more : (k : ℕ) (e : Entry) → unfit_with m plan state counts k e ≡ false → unfit_with m plan state other k e ≡ false
  unfolding unfit_with
  unfit-more k e f =
      let (far, past, foreign, elsewhere, held, idle) = none-of-six _ _ _ _ _ _ f in
      Following.fit m plan state other k e (eqb-false _ _ far) (leb-false _ _ past) (eqb-true _ _ (not-false _ foreign))
      (eqb-true _ _ (not-false _ elsewhere)) (not-false _ held) (more e.move (not-false _ idle))

  module _ (masks : Masks) (k : ℕ) {r : Next}
      (lower : (needs : Masks) → fulfil_with m plan state counts needs k ≡ given r → fulfil_with m plan state other needs k ≡ given r) where
    prepare-more : (v : Move) → prepare_by m plan state (λ needs. fulfil_with m plan state counts needs k) k v ≡ given r
        → prepare_by m plan state (λ needs. fulfil_with m plan state other needs k) k v ≡ given r
    prepare-more v h =
        by_cases (holds_outside m plan state k v)
        (λ t. Following.prepare-sends m plan state _ k v t ∙ sym (Following.prepare-sends m plan state _ k v t) ∙ h)
        (λ f. Following.prepare-asks m plan state _ k v f ∙ lower _ (sym (Following.prepare-asks m plan state _ k v f) ∙ h))

    follow-more : follow_with m plan state counts (λ needs. fulfil_with m plan state counts needs k) masks k ≡ given r
        → follow_with m plan state other (λ needs. fulfil_with m plan state other needs k) masks k ≡ given r
    follow-more h =
        by_cases (unfit_with m plan state counts k (entry_at m plan k (present m plan state k) (target_of m plan state masks k)))
        (λ t. absurd (given-not-refused (sym h ∙ Following.follow-unfit m plan state counts _ masks k t)))
        (λ f.
        Following.follow-fit m plan state other _ masks k (unfit-more k _ f)
        ∙ prepare-more _ (sym (Following.follow-fit m plan state counts _ masks k f) ∙ h))

  fulfil-more : (masks : Masks) (n : ℕ) {r : Next} → fulfil_with m plan state counts masks n ≡ given r
      → fulfil_with m plan state other masks n ≡ given r
  fulfil-more masks zero e =
      Following.fulfil-none m plan state other masks ∙ sym (Following.fulfil-none m plan state counts masks) ∙ e
  fulfil-more masks (suc k) e =
      by_cases (met (groups m plan) masks state k)
      (λ t.
      Following.fulfil-met m plan state other masks k t
      ∙ fulfil-more masks k (sym (Following.fulfil-met m plan state counts masks k t) ∙ e))
      (λ f.
      Following.fulfil-unmet m plan state other masks k f
      ∙ follow-more masks k (λ needs. fulfil-more needs k) (sym (Following.fulfil-unmet m plan state counts masks k f) ∙ e))

pub fewer-upstream : FewerUpstream
fewer-upstream m plan = upstream-more m plan (usable_in m plan) every_move (λ v t. refl)

pub covered-still : CoveredStill
unfolding after_all
covered-still sheet plan state goal buffer scratch d parsed planned state-fits goal-fits c =
    let m = d.model in
    let tables = (planned-lawful sheet plan buffer scratch d parsed planned).tables in
    let admitted : Admitted m plan state goal = record {
      state-fits = state-fits;
      goal-fits = goal-fits;
      covered = record {
        itself-live = c.itself-live;
        upstream-live = λ k a h u up. c.upstream-live k a h u (fewer-upstream m plan k a up);
        attains = c.attains;
        no-dead-end = λ k a h u up. c.no-dead-end k a h u (fewer-upstream m plan k a up);
      };
    } in
    let (state-good, goal-good, covers) =
    admitted-passes m (parse-valid sheet parsed) plan tables.shaped tables.byte-entries state goal admitted in
    let asked = arrival (lend sheet plan goal) state buffer scratch d (ask ∷ []) parsed planned admitted (tt, tt) in
    let answered = (asked.asking [] [] refl).answered in
    let now = next-fulfils sheet plan state goal d parsed tables.shaped state-good goal-good covers in
    record {
      admitted = admitted;
      replied = answered.1
          ∙ sym (fulfil-more m plan state (usable_in m plan) every_move (λ v t. refl) (goal_masks m goal)
          (group_count (groups_in m plan)) (sym now ∙ answered.1));
    }
