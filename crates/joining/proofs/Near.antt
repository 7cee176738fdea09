-- Every refusal of joining has a number that is not 0 and a place of two bytes.
-- Assumes nothing.
use Prim.Native.Nat.{ℕ, ◌≤◌}
use mathlib.Core.Path.{◌≡◌, subst}
use mathlib.Core.Logic.{⊎_elim}
use mathlib.Core.List.{List, [], ◌∷◌, ◌++◌, append_assoc}
use native.Mathlib.Omega.{arith}
use borrow.Author.Tests.{ltb-false}
use lib.ListN.{length}
use Rattle.common.specs.Lists.{maximum}
use Rattle.common.specs.Reply.{Reply, given, refused, Fault, unless}
use Rattle.common.proofs.Reply.{and_then-refused}
use Rattle.sheet.specs.Model.{Model, machine_count}
use Rattle.sheet.specs.Valid.{Valid}
use Rattle.sheet.specs.Parse.{parse}
use Rattle.sheet.proofs.Parsed.{parse-valid}
use Rattle.sheet.proofs.Place.{Near, refusal-near}
use Rattle.command.specs.Goal.{bad_byte, goal_faults}
use Rattle.command.proofs.Near.{NearReply, none-near, first-near, find-inside}
use Rattle.joining.specs.Join.{Goals, goals_in, longest_goal, nothing_shared, shared_faults, each_faults, joined, joined_reply, join_reply}
use Rattle.joining.proofs.Slices.{goals-refused}

module _ (m : Model) (valid : Valid m) where
  -- 14 of each goal stands at a machine or at 255, and what follows may count on goals that are not too long
  each-near : {A : Type 0} (r : Reply A) (goals : Goals) (fs : List Fault)
      → (longest_goal goals ≤ machine_count m → NearReply (unless fs r)) → NearReply (unless (each_faults m goals ++ fs) r)
  unfolding each_faults goal_faults longest_goal maximum
  each-near r [] fs later = later (omega arith)
  each-near r (goal ∷ goals) fs later =
      rw (append_assoc (goal_faults m goal) (each_faults m goals) fs)
      (first-near r _ _ (omega arith) (λ n.
      let l = ltb-false (machine_count m) (length goal) n in
      first-near r _ _ (omega (arith, find-inside (bad_byte m goal) (length goal), valid.few-machines)) (λ k.
      each-near r goals fs (λ h. later (omega (arith, h))))))

  -- 19 stands at a machine, and 12 at 0
  shared-near : (goals : Goals) (room : ℕ) → longest_goal goals ≤ machine_count m
      → NearReply (unless (shared_faults goals room) (given (joined goals)))
  unfolding shared_faults
  shared-near goals room h =
      first-near _ _ _ (omega (arith, find-inside (nothing_shared goals) (longest_goal goals), valid.few-machines, h)) (λ n.
      first-near _ _ [] (omega arith) (λ k. none-near _ tt))

pub join-near : (sheet lent : List ℕ) (room : ℕ) {number place : ℕ} → join_reply sheet lent room ≡ refused number place
    → Near number place
unfolding join_reply joined_reply
join-near sheet lent room e =
    ⊎_elim
    (λ unread. refusal-near sheet unread)
    (λ (d, read, later).
    ⊎_elim
    (λ unsplit. omega (arith, goals-refused _ _ unsplit))
    (λ (goals, split, faulty).
    subst NearReply faulty
    (each-near d.model (parse-valid sheet read) _ goals _ (shared-near d.model (parse-valid sheet read) goals room)))
    (and_then-refused (goals_in 8 lent) _ later))
    (and_then-refused (parse sheet) _ e)
