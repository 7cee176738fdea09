-- What joining replies: 1 to 8 and 21 of the sheet, 14 of the slice and of the first goal that does not fit, 19, 12, or the goal.
-- Assumes nothing.
use Prim.Native.Nat.{ℕ, ◌≤◌, ◌<◌}
use mathlib.Core.Path.{◌≡◌, refl, sym, ap, ◌∙◌}
use mathlib.Core.Logic.{⊎_elim}
use mathlib.Core.List.Memᴰ.{head}
use mathlib.Core.List.Memᴰ.{tail}
use mathlib.Core.List.{List, [], ◌∷◌, ◌++◌, append-nil, append_assoc}
use mathlib.Core.Bool.{false}
use native.Mathlib.Omega.{arith}
use borrow.Author.Tests.{lt-ltb, le-ltb}
use lib.ListN.{length}
use Rattle.common.specs.Lists.{up_to, any}
use Rattle.common.specs.Reply.{Reply, given, refused, Fault, unless, and_then}
use Rattle.common.proofs.Lists.{any-fails}
use Rattle.common.proofs.Members.{up_to-below}
use Rattle.common.proofs.Reply.{unless-first, unless-later, unless-clear}
use Rattle.common.proofs.Clear.{unless-append-clear}
use Rattle.sheet.specs.Model.{Model}
use Rattle.sheet.specs.Valid.{Valid}
use Rattle.sheet.specs.Parse.{Parsed, parse}
use Rattle.sheet.proofs.Parsed.{parse-valid}
use Rattle.command.specs.Goal.{goal_faults}
use Rattle.command.proofs.TurnedDown.{goal-passes, first-wrong-refuses, too_long, wrong_byte}
use Rattle.joining.specs.Join.{Goals, goals_in, longest_goal, joined, nothing_shared, has_no_room, shared_faults, each_faults}
use Rattle.joining.specs.Join.{joined_reply, join_reply}
use Rattle.joining.specs.Joined.{lent_as, EachFits, Shared, SomeLonger, JoinTold, JoinsRight}
use Rattle.joining.proofs.Meeting.{longer-exactly, left-exactly, joined-right}
use Rattle.joining.proofs.Slices.{lent_goals, lent-or-refused}

-- goals that fit are passed over
fitting-first : {A : Type 0} (m : Model) (before after : Goals) (rest : List Fault) (r : Reply A) → EachFits m before
    → unless (each_faults m (before ++ after) ++ rest) r ≡ unless (each_faults m after ++ rest) r
unfolding each_faults
fitting-first m [] after rest r fits = refl
fitting-first m (goal ∷ before) after rest r fits =
    ap (λ fs. unless fs r) (append_assoc (goal_faults m goal) (each_faults m (before ++ after)) rest)
    ∙ unless-append-clear (goal_faults m goal) _ r ((goal-passes m goal).1 (fits goal (head refl)))
    ∙ fitting-first m before after rest r (λ g l. fits g (tail l))

-- and where the next one does not, 14 is its own
fitting-then : {A : Type 0} (m : Model) (before after : Goals) (goal : List ℕ) (rest : List Fault) (r : Reply A)
    → EachFits m before → unless (each_faults m (before ++ (goal ∷ after)) ++ rest) r
    ≡ unless (goal_faults m goal ++ (each_faults m after ++ rest)) r
unfolding each_faults
fitting-then m before after goal rest r fits =
    fitting-first m before (goal ∷ after) rest r fits
    ∙ ap (λ fs. unless fs r) (append_assoc (goal_faults m goal) (each_faults m after) rest)

fitting-all : {A : Type 0} (m : Model) (goals : Goals) (rest : List Fault) (r : Reply A) → EachFits m goals
    → unless (each_faults m goals ++ rest) r ≡ unless rest r
unfolding each_faults
fitting-all m goals rest r fits =
    ap (λ gs. unless (each_faults m gs ++ rest) r) (sym (append-nil goals)) ∙ fitting-first m goals [] rest r fits

-- the goals' own causes: 19 before 12
module _ (m : Model) (goals : Goals) (valid : Valid m) (fits : EachFits m goals) (room : ℕ) {A : Type 0} (r : Reply A) where
  none_left : (i : ℕ) → SomeLonger goals i → (Shared goals i → ⊥) → ((j : ℕ) → j < i → Shared goals j)
      → unless (shared_faults goals room) r ≡ refused 19 i
  unfolding shared_faults
  none_left i long none before =
      first-wrong-refuses 19 (nothing_shared goals) (longest_goal goals) _ r (left-exactly m goals valid fits)
      (record { below = (longer-exactly i goals).1 long; wrong = none; before = before })

  module _ (left : (i : ℕ) → SomeLonger goals i → Shared goals i) where
    some_left : any (nothing_shared goals) (up_to (longest_goal goals)) ≡ false
    some_left =
        any-fails _ (up_to (longest_goal goals))
        (λ i l. (left-exactly m goals valid fits i).1 (left i ((longer-exactly i goals).0 (up_to-below _ l))))

    too_small : SomeLonger goals room → unless (shared_faults goals room) r ≡ refused 12 0
    unfolding shared_faults has_no_room
    too_small long =
        unless-later _ _ r some_left ∙ unless-first _ _ r (lt-ltb _ _ ((longer-exactly room goals).1 long))

    large-enough : (SomeLonger goals room → ⊥) → unless (shared_faults goals room) r ≡ r
    unfolding shared_faults has_no_room
    large-enough none =
        let short : ¬ (room < longest_goal goals) = λ l. none ((longer-exactly room goals).0 l) in
        unless-clear _ r (some_left, (le-ltb room (longest_goal goals) (omega arith), tt))

module _ (sheet lent : List ℕ) (room : ℕ) (d : Parsed) (parses : parse sheet ≡ given d) where
  slice_first : join_reply sheet lent room ≡ joined_reply d.model lent room
  unfolding join_reply and_then
  slice_first = rw parses

  no-slice : goals_in 8 lent ≡ refused 14 255 → join_reply sheet lent room ≡ refused 14 255
  unfolding joined_reply and_then
  no-slice e = slice_first ∙ rw e

  module _ (goals : Goals) (few : length goals ≤ 8) (whole : lent ≡ lent_as goals) where
    judged : join_reply sheet lent room
        ≡ unless (each_faults d.model goals ++ shared_faults goals room) (given (joined goals))
    unfolding joined_reply and_then
    judged = slice_first ∙ rw (ap (goals_in 8) whole ∙ lent_goals 8 goals few)

    first-unfit : (before after : Goals) (goal : List ℕ) → goals ≡ before ++ (goal ∷ after) → EachFits d.model before
        → join_reply sheet lent room
        ≡ unless (goal_faults d.model goal ++ (each_faults d.model after ++ shared_faults goals room))
        (given (joined goals))
    first-unfit before after goal e fits =
        judged
        ∙ ap (λ gs. unless (each_faults d.model gs ++ shared_faults goals room) (given (joined goals))) e
        ∙ fitting-then d.model before after goal _ _ fits

    all_fit : EachFits d.model goals → join_reply sheet lent room ≡ unless (shared_faults goals room) (given (joined goals))
    all_fit fits = judged ∙ fitting-all d.model goals _ _ fits

    told : JoinTold d.model goals sheet lent room
    told =
        let m = d.model in
        let valid = parse-valid sheet parses in
        record {
          goal-length = λ before after goal e fits l. first-unfit before after goal e fits ∙ too_long m goal _ _ l;
          goal-byte = λ before after goal i e fits l w. first-unfit before after goal e fits ∙ wrong_byte m goal _ _ l w;
          no_mode = λ i fits long none before. all_fit fits ∙ none_left m goals valid fits room _ i long none before;
          no_room = λ fits left long. all_fit fits ∙ too_small m goals valid fits room _ left long;
          joins = λ fits left none. (
            joined goals,
            all_fit fits ∙ large-enough m goals valid fits room _ left none,
            joined-right m goals valid fits left,
          );
        }

pub joins-right : JoinsRight
unfolding join_reply and_then
joins-right sheet lent room = (
  λ n p e. rw e,
  λ d parses. (
    λ none.
        ⊎_elim
        (λ l. absurd (none l.goals l.few l.whole))
        (λ e. no-slice sheet lent room d parses e)
        (lent-or-refused 8 lent),
    told sheet lent room d parses,
  ),
)
