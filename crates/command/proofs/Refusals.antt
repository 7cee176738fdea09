-- The refusal of a goal that is not covered: by which group, with which number, at which place.
-- Assumes nothing.
use Prim.Native.Nat.{ℕ}
use mathlib.Core.Path.{◌≡◌, sym, ap, ◌∙◌}
use mathlib.Core.Logic.{⊎_elim}
use mathlib.Core.List.{List, []}
use mathlib.Core.Bool.{Bool, true, false, cond, not}
use borrow.Author.Tests.{not-true, not-false}
use Rattle.common.specs.Reply.{Reply, Fault, clear, unless}
use Rattle.common.proofs.Bools.{true-false, false-of-not-true, cond-false}
use Rattle.common.proofs.Lists.{all-intro}
use Rattle.common.proofs.Clear.{each-clear, clear-flat_map}
use Rattle.sheet.specs.Model.{Model}
use Rattle.sheet.specs.Valid.{Valid}
use Rattle.sheet.proofs.Parsed.{parse-valid}
use Rattle.plan.specs.Groups.{group_count}
use Rattle.plan.specs.Reading.{well_shaped}
use Rattle.plan.specs.Shown.{usable_in}
use Rattle.command.specs.Goal.{Masks, met}
use Rattle.common.specs.Lists.{down_to}
use Rattle.command.specs.Attainable.{groups, dead_end, group_faults, attain_faults}
use Rattle.command.specs.Uncovered.{Uncovered, RefusedSo, UncoveredRefused}
use Rattle.command.proofs.Shape.{Sound, sound-state}
use Rattle.command.proofs.Highest.{Highest, find-down, down_to-below, unless-highest}
use Rattle.command.proofs.Shown.{Small, bytes_small}
use Rattle.command.proofs.Causes.{group-because, clear-passes}
use Rattle.command.proofs.Asking.{next-reply}
use Rattle.command.proofs.TurnedDown.{state-passes, goal-passes}
use Rattle.command.proofs.Admitted.{passes-admitted}
use Rattle.command.proofs.OneRefusal.{uncovered-one}

module _ (m : Model) (plan : List ℕ) (counts : ℕ → Bool) (state : List ℕ) (masks : Masks) where
  abbrev count : ℕ
  count = group_count (groups m plan)

  -- the causes of one group: none where it is met
  abbrev pub causes_of : ℕ → List Fault
  causes_of k = cond (met (groups m plan) masks state k) [] (group_faults m plan counts (dead_end m plan) state masks k)

  pub causes-are : (k : ℕ) → met (groups m plan) masks state k ≡ false → causes_of k ≡ group_faults m plan counts (dead_end m plan) state masks k
  causes-are k f = cond-false _ _ f

  causes-unmet : (k : ℕ) → clear (causes_of k) ≡ false → met (groups m plan) masks state k ≡ false
  causes-unmet k h = false-of-not-true (λ t. true-false (rw t (each-clear [] tt)) h)

  -- the highest-numbered unmet group that has a cause refuses
  module _ (valid : Valid m) (shaped : well_shaped m plan ≡ true) (small : Small m plan) (sound : Sound m state) where
    by-top : {A : Type 0} (r : Reply A) (k : ℕ) → Highest (λ k. not (clear (causes_of k))) count k
        → RefusedSo m plan counts state masks (unless (attain_faults m plan counts (dead_end m plan) state masks) r)
    unfolding attain_faults
    by-top r k top =
        let some : clear (causes_of k) ≡ false = not-true _ top.has in
        let unmet = causes-unmet k some in
        let b = group-because m plan counts state masks valid shaped small sound k r top.below
        (sym (ap clear (causes-are k unmet)) ∙ some) in
        let due : Uncovered m plan counts state masks b.0 b.1 = record {
          group = k;
          below = top.below;
          unmet = unmet;
          higher-pass = λ b l h f. clear-passes m plan counts state masks valid shaped small sound b h
              (sym (ap clear (causes-are b f)) ∙ not-false _ (top.none_above b l h));
          because = b.2;
        } in
        record {
          number = b.0;
          place = b.1;
          uncovered = due;
          alone = λ n p other. uncovered-one m plan counts state masks other due;
          refuses = unless-highest causes_of count r top ∙ (ap (λ fs. unless fs r) (causes-are k unmet) ∙ b.3);
        }

    attain-refuses : {A : Type 0} (r : Reply A) → clear (attain_faults m plan counts (dead_end m plan) state masks) ≡ false
        → RefusedSo m plan counts state masks (unless (attain_faults m plan counts (dead_end m plan) state masks) r)
    unfolding attain_faults
    attain-refuses r h =
        ⊎_elim
        (λ top. by-top r _ top)
        (λ none. absurd (true-false
        (clear-flat_map causes_of (down_to count)
        ∙ all-intro _ (down_to count) (λ k l. not-false _ (none.1 k (down_to-below count l)))) h))
        (find-down (λ k. not (clear (causes_of k))) count count)

pub uncovered : UncoveredRefused
uncovered sheet plan state goal d parsed shaped bytes state-fits goal-fits fails =
    let m = d.model in
    let valid = parse-valid sheet parsed in
    let small = bytes_small m plan bytes in
    let fits = (state-passes m state).1 state-fits in
    let fine = (goal-passes m goal).1 goal-fits in
    rw (next-reply sheet plan state goal d parsed shaped fits fine)
    (attain-refuses m plan (usable_in m plan) state _ valid shaped small (sound-state m state fits) _
    (false-of-not-true (λ t. fails (passes-admitted m valid plan shaped small state goal fits fine t))))
