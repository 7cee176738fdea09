-- The reply of joining as the code comes to it: the sheet, 14 of the slice, 14 of each goal, then the rest.
-- Assumes nothing.
use Prim.Native.Nat.{ℕ, ◌≤◌}
use mathlib.Core.Path.{◌≡◌, refl, sym, ap, ◌∙◌}
use mathlib.Core.Logic.{⊎_elim}
use mathlib.Core.List.Memᴰ.{head}
use mathlib.Core.List.Memᴰ.{tail}
use mathlib.Core.List.{List, ◌∷◌, ◌++◌}
use mathlib.Core.Bool.{Bool, true, false}
use native.Mathlib.Omega.{arith}
use Rattle.common.specs.Reply.{Reply, given, refused, unless, and_then, clear}
use Rattle.common.proofs.Bools.{by_cases, true-false, and_left, and_right}
use Rattle.common.proofs.Reply.{given-not-refused, given-clear, unless-clear, refused-anyway}
use Rattle.common.proofs.Clear.{clear-append, clear-each, each-clear, unless-append-clear, unless-append-decides}
use Rattle.sheet.specs.declared.index.Sheet.{Sheet}
use Rattle.sheet.specs.Model.{Model, machine_count}
use Rattle.sheet.specs.Parse.{parse}
use Rattle.sheet.specs.Kept.Indexed.{Indexes}
use Rattle.command.specs.Goal.{goal_faults}
use Rattle.command.proofs.TurnedDown.{goal-passes}
use Rattle.joining.specs.Join.{Goals, most_goals, goals_in, each_faults, shared_faults, joined}
use Rattle.joining.specs.Join.{joined_reply, join_reply}
use Rattle.joining.specs.Joined.{EachFits}
use Rattle.joining.specs.Kept.Lent.{is_given, Splits, SplitsShort}
use Rattle.joining.proofs.Sharing.{shared_reply}
use Rattle.joining.proofs.Slices.{lent_goals, lent-or-refused}

-- The slice

-- what is given
is-given : {A : Type 0} (r : Reply A) → is_given r ≡ true → (a : A) × (r ≡ given a)
is-given (given a) t = (a, refl)
is-given (refused n p) t = absurd (true-false t refl)

module _ (lent : List ℕ) {b : Bool} (e : b ≡ is_given (goals_in most_goals lent)) where
  pub whole-holds : b ≡ true → (each : Goals) × Splits lent each
  whole-holds t = is-given (goals_in most_goals lent) (sym e ∙ t)

  pub cut-refused : (m : Model) (room : ℕ) → b ≡ false → refused 14 255 ≡ joined_reply m lent room
  unfolding joined_reply and_then
  cut-refused m room f =
      ⊎_elim
      (λ l.
      let held : goals_in most_goals lent ≡ given l.goals
      = ap (goals_in most_goals) l.whole ∙ lent_goals most_goals l.goals l.few in
      absurd (true-false (ap is_given held) (sym e ∙ f)))
      (λ r. rw r)
      (lent-or-refused most_goals lent)

-- Each goal

pub each_fits : (m : Model) (goals : Goals) → clear (each_faults m goals) ≡ true → EachFits m goals
unfolding each_faults
each_fits m mathlib.Core.List.[] h goal x'' = elim x'' [ ]
each_fits m (g ∷ goals) h goal (head e) =
    rw e ((goal-passes m g).0 (and_left _ _ (sym (clear-append (goal_faults m g) (each_faults m goals)) ∙ h)))
each_fits m (g ∷ goals) h goal (tail l) =
    each_fits m goals
    (and_right (clear (goal_faults m g)) _ (sym (clear-append (goal_faults m g) (each_faults m goals)) ∙ h)) goal l

-- 14 of each
abbrev pub each_reply : Model → Goals → Reply Unit
each_reply m each = unless (each_faults m each) (given tt)

passes : (m : Model) (each : Goals) → given tt ≡ each_reply m each → clear (each_faults m each) ≡ true
passes m each e = each-clear (each_faults m each) (given-clear (each_faults m each) (given tt) (sym e))

-- they are short
pub each-short : (m : Model) (lent : List ℕ) {each : Goals} {n : ℕ} → Splits lent each → given tt ≡ each_reply m each
    → n ≡ machine_count m → n ≤ 32 → SplitsShort lent each
each-short m lent {each} holds e c few =
    record { holds = holds; short = λ goal l. omega (arith, (each_fits m each (passes m each e) goal l).0) }

module _ (m : Model) (lent : List ℕ) {each : Goals} (holds : Splits lent each) (room : ℕ) where
  judged : joined_reply m lent room ≡ unless (each_faults m each ++ shared_faults each room) (given (joined each))
  unfolding joined_reply and_then
  judged = rw holds

  pub each-refused : {n p : ℕ} → refused n p ≡ each_reply m each → refused n p ≡ joined_reply m lent room
  each-refused e =
      by_cases (clear (each_faults m each))
      (λ t. absurd (given-not-refused (sym (unless-clear _ _ (clear-each _ t)) ∙ sym e)))
      (λ f.
      sym (judged ∙ unless-append-decides (each_faults m each) _ _ f ∙ refused-anyway (each_faults m each) tt _ (sym e)))

  pub each_shared : given tt ≡ each_reply m each → joined_reply m lent room ≡ shared_reply each room
  each_shared e = judged ∙ unless-append-clear (each_faults m each) _ _ (passes m each e)

-- The sheet

module _ (file lent : List ℕ) (room : ℕ) where
  pub join-read : {x : Sheet} {m : Model} → Indexes file x m → join_reply file lent room ≡ joined_reply m lent room
  unfolding join_reply and_then
  join-read i = rw (i.passes, i.model)

  pub join-unread : {n p : ℕ} → parse file ≡ refused n p → join_reply file lent room ≡ refused n p
  unfolding join_reply and_then
  join-unread e = rw e
