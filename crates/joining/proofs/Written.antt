-- What joining leaves in the lent buffer, and how long that is at most.
-- Assumes nothing.
use Prim.Native.Nat.{ℕ, ◌≤◌}
use mathlib.Core.Path.{◌≡◌, refl, sym, ap, ◌∙◌}
use mathlib.Core.List.Memᴰ
use mathlib.Core.List.Memᴰ.{head}
use mathlib.Core.List.Memᴰ.{tail}
use mathlib.Core.List.{List, ◌++◌}
use native.Mathlib.Omega.{arith}
use borrow.Author.Tests.{ltb-false}
use lib.ListN.{length}
use Rattle.common.specs.Reply.{given}
use Rattle.common.proofs.Bools.{and_left}
use Rattle.common.proofs.Clear.{each-clear, clear-append}
use Rattle.common.proofs.Output.{output-left}
use Rattle.common.proofs.Reply.{Silent, Clear, each_at, given-clear, given_stays, and_then-given}
use Rattle.sheet.specs.Model.{Model, machine_count}
use Rattle.sheet.specs.Parse.{parse}
use Rattle.sheet.proofs.Parsed.{parse-valid}
use Rattle.joining.specs.Join.{Goals, goals_in, longest_goal, joined, has_no_room, shared_faults, each_faults}
use Rattle.joining.specs.Join.{joined_reply, join_reply}
use Rattle.joining.specs.Joined.{JoinLeft}
use Rattle.joining.proofs.Meeting.{joined_length, joined-short}
use Rattle.joining.proofs.JoinReply.{each_fits}

-- what is joined is the joined goal of goals that have passed every cause
record Joined (m : Model) (room : ℕ) (joint : List ℕ) : Type 0 where
  goals : Goals
  clear : Clear (each_faults m goals ++ shared_faults goals room)
  same : joined goals ≡ joint

joined_of : (m : Model) (lent : List ℕ) (room : ℕ) {joint : List ℕ} → joined_reply m lent room ≡ given joint
    → Joined m room joint
unfolding joined_reply
joined_of m lent room {joint} e =
    let (goals, split, given_by) = and_then-given (goals_in 8 lent) _ e in
    let same : given (joined goals) ≡ given joint = given_stays _ _ given_by in
    record { goals = goals; clear = given-clear _ _ given_by; same = cc }

-- it fits the buffer
joined-fits : (m : Model) (room : ℕ) {joint : List ℕ} → Joined m room joint → length joint ≤ room
unfolding shared_faults has_no_room
joined-fits m room j =
    let room-left = each_at Silent j.clear (Memᴰ.append_right (each_faults m j.goals) (tail (head refl))) in
    omega (arith, ltb-false room (longest_goal j.goals) room-left, joined_length j.goals, ap length j.same)

-- and names no machine that the sheet does not have
joined-few : (m : Model) (room : ℕ) {joint : List ℕ} → Joined m room joint → length joint ≤ machine_count m
joined-few m room j =
    let all = sym (clear-append (each_faults m j.goals) _) ∙ each-clear _ j.clear in
    omega (arith, joined-short m j.goals (each_fits m j.goals (and_left _ _ all)), ap length j.same)

module _ (sheet lent : List ℕ) (room : ℕ) {joint : List ℕ} (e : join_reply sheet lent room ≡ given joint) where
  reply-fits : length joint ≤ room
  unfolding join_reply
  reply-fits =
      let (d, parses, later) = and_then-given (parse sheet) _ e in
      joined-fits d.model room (joined_of d.model lent room later)

  pub reply-short : length joint ≤ 32
  unfolding join_reply
  reply-short =
      let (d, parses, later) = and_then-given (parse sheet) _ e in
      omega (
        arith,
        joined-few d.model room (joined_of d.model lent room later),
        (parse-valid sheet parses).few-machines,
      )

pub join-left : (sheet lent before : List ℕ) → JoinLeft sheet lent before
join-left sheet lent before = output-left before _ (λ joint e. reply-fits sheet lent (length before) e)
