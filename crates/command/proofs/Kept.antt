-- What a run keeps: the state is sound, the goal covered, what is applied and what is left are within the bound,
-- and a pending command is one that is sent in this state.
-- Assumes nothing.
use Prim.Native.Nat.{ℕ, suc, ◌+◌, ◌≤◌, ◌<◌}
use mathlib.Core.Path.{◌≡◌, ◌∙◌}
use mathlib.Core.Logic.{⊎_elim}
use mathlib.Core.List.{List}
use mathlib.Core.Bool.{Bool, true}
use native.Mathlib.Nat.{le_refl}
use native.Mathlib.Omega.{arith}
use Rattle.common.specs.Lists.{up_to}
use Rattle.common.specs.Reply.{given}
use Rattle.common.proofs.Bools.{true-false}
use Rattle.common.proofs.Members.{up_to-mem}
use Rattle.common.proofs.SumsBelow.{sum_below-le}
use Rattle.sheet.specs.Model.{Model, move_count, move_at}
use Rattle.sheet.specs.Valid.{Valid}
use Rattle.sheet.specs.Parse.{Parsed, parse}
use Rattle.plan.specs.Groups.{group_count}
use Rattle.plan.specs.Reading.{bound_in, counted}
use Rattle.plan.specs.Laws.{TableLaws, CostLaws}
use Rattle.command.specs.State.{mode_of, with_mode}
use Rattle.command.specs.Goal.{Masks, goal_masks}
use Rattle.command.specs.Attainable.{groups, live_group}
use Rattle.command.specs.Covered.{Attains, Covered}
use Rattle.command.specs.Next.{command}
use Rattle.command.specs.Apply.{Answers, apply_reply}
use Rattle.command.specs.Run.{Lent, ask_reply, none, some, Situation}
use Rattle.command.specs.Arrival.{AsWishedFrom}
use Rattle.command.proofs.Facts
use Rattle.command.proofs.Facts.{Sound}
use Rattle.command.proofs.Wished.{met-wished, wished-met}
use Rattle.command.proofs.Safe.{SafeLaws}
use Rattle.command.proofs.Sends.{Sends}
use Rattle.command.proofs.Moving
use Rattle.command.proofs.Moving.{Acting, Highest, MovesBy, sends-acting}
use Rattle.command.proofs.Stays
use Rattle.command.proofs.Fall.{Scoped, fall, fall-bounded}
use Rattle.command.proofs.Falls.{fall-falls}
use Rattle.plan.proofs.Named.{moves-below}
use Rattle.plan.specs.Reading.{groups_in}

-- the laws as a run uses them: 18 by what is said of a group that is safe
pub record RunLaws (m : Model) (plan : List ℕ) (counts : ℕ → Bool) (S : Masks → ℕ → ℕ → Type 0) (Usable : ℕ → Type 0)
    (longest cost : ℕ → ℕ) : Type 0 where
  pub tables : TableLaws m plan counts Usable longest
  pub safe : SafeLaws m plan Usable S
  pub costs : CostLaws m plan (counted m plan counts) longest cost

module _ (m : Model) (lent : Lent) where
  abbrev plan : List ℕ
  plan = lent.plan

  abbrev wish : Masks
  wish = goal_masks m lent.goal

  abbrev pub count : ℕ
  count = group_count (groups m lent.plan)

  -- how many commands may still come in a situation: the number that falls
  abbrev pub to_come : (ℕ → Bool) → (ℕ → ℕ) → Situation → ℕ
  to_come counts cost s = fall m plan counts cost s.state wish (up_to count) count

  -- move v of group j is what is sent for the goal in a state
  abbrev pub Sent : (ℕ → Type 0) → List ℕ → ℕ → ℕ → Type 0
  Sent Usable state j v = Sends m plan Usable state wish count j v

  -- the command of a move that is sent
  pub record Pends (Usable : ℕ → Type 0) (state : List ℕ) (i c : ℕ) : Type 0 where
    pub group : ℕ
    pub move : ℕ
    pub sent : Sent Usable state group move
    pub asked : ask_reply lent state ≡ given (command i c)
    pub machine-is : i ≡ (move_at m move).machine
    pub byte-is : c ≡ (move_at m move).command

  pub record Kept (counts : ℕ → Bool) (S : Masks → ℕ → ℕ → Type 0) (Usable : ℕ → Type 0) (cost : ℕ → ℕ)
      (s : Situation) : Type 0 where
    pub sound : Sound m s.state
    pub covered : Covered m plan counts (Attains m plan) S wish s.state count
    pub within : s.applied + to_come counts cost s ≤ bound_in m plan
    pub pends : (i c : ℕ) → s.pending ≡ some i c → Pends Usable s.state i c

  -- every group is in the scope of the caller's goal
  pub all-scoped : Scoped m lent.plan (goal_masks m lent.goal) (up_to count) count
  all-scoped a q h n = absurd (n (up_to-mem h))

  -- a covered goal takes no more than the bound
  pub to_come-bounded : {counts : ℕ → Bool} {S : Masks → ℕ → ℕ → Type 0} {Usable : ℕ → Type 0} {longest cost : ℕ → ℕ} → Valid m
      → RunLaws m lent.plan counts S Usable longest cost → (s : Situation) → Sound m s.state
      → Covered m lent.plan counts (Attains m lent.plan) S (goal_masks m lent.goal) s.state count
      → to_come counts cost s ≤ bound_in m lent.plan
  to_come-bounded {cost} valid laws s sound covered =
      omega (
        arith,
        fall-bounded valid laws.tables laws.safe laws.costs sound _ (le_refl _) _ _ all-scoped covered,
        sum_below-le cost count (up_to count),
        laws.costs.bound-is,
      )

-- a situation after a move
abbrev pub moved_by : Model → Situation → ℕ → Situation
moved_by m s v =
    record {
      state = with_mode s.state (move_at m v).machine (move_at m v).to;
      pending = none;
      applied = suc s.applied;
    }

module _ {m : Model} {lent : Lent} {counts : ℕ → Bool} {S : Masks → ℕ → ℕ → Type 0} {Usable : ℕ → Type 0} {longest cost : ℕ → ℕ}
    (valid : Valid m) (laws : RunLaws m lent.plan counts S Usable longest cost) {s : Situation}
    (kept : Kept m lent counts S Usable cost s) where
  module _ {j v : ℕ} (sent : Sent m lent Usable s.state j v) where
    abbrev acting : Acting m lent.plan Usable s.state j v
    acting = sends-acting sent

    moves : MovesBy m lent.plan s.state (moved_by m s v).state j v
    moves = Moving.acting-moves valid laws.tables kept.sound acting

    pub highest : Highest m lent.plan s.state counts (goal_masks m lent.goal) (count m lent) j
    highest = Moving.sends-highest valid laws.tables kept.sound sent

    covered-after : Covered m lent.plan counts (Attains m lent.plan) S (goal_masks m lent.goal)
        (moved_by m s v).state (count m lent)
    covered-after =
        Stays.covered-stays valid laws.tables laws.safe kept.sound acting moves _ _ kept.covered
        highest sent

    to_come-falls : to_come m lent counts cost (moved_by m s v) < to_come m lent counts cost s
    to_come-falls =
        fall-falls valid laws.tables laws.safe laws.costs kept.sound _ sent (le_refl _) moves
        (up_to (count m lent)) (all-scoped m lent) covered-after

    -- the move acts, by its command and no other
    pub sent-present : v < move_count m
    sent-present = moves-below m (groups_in m lent.plan) j acting.member

    pub sent-from : mode_of s.state (move_at m v).machine ≡ (move_at m v).from
    sent-from =
        Facts.leading-from m valid lent.plan laws.tables.shaped j v acting.member s.state kept.sound
        acting.leading

    -- its group is live: it is the highest unmet one, or upstream of it
    sent-live : live_group m lent.plan s.state j ≡ true
    sent-live =
        let c = kept.covered in
        let h = highest in
        ⊎_elim
        (λ w. rw w (c.itself-live h.top h.top_below h.top-unmet))
        (λ w. c.upstream-live h.top j h.top_below h.top-unmet w)
        h.way

    pub sent-answers : Answers m s.state (move_at m v).machine (move_at m v).command v
    sent-answers =
        Facts.move-answers m valid lent.plan laws.tables.shaped j v acting.member s.state kept.sound
        acting.leading acting.outside sent-live

    pub sent-applies : (sheet : List ℕ) (d : Parsed) → parse sheet ≡ given d → d.model ≡ m
        → apply_reply sheet s.state (move_at m v).machine (move_at m v).command
        ≡ given (record { move = v; state = (moved_by m s v).state })
    sent-applies =
        Facts.applied-reply m valid lent.plan laws.tables.shaped j v acting.member s.state kept.sound
        acting.leading acting.outside sent-live

    -- a command is given only while fewer have been applied than the bound
    pub sent-within : s.applied < bound_in m lent.plan
    sent-within = omega (arith, kept.within, to_come-falls)

    pub kept-moved : Kept m lent counts S Usable cost (moved_by m s v)
    kept-moved =
        record {
          sound = moves.sound;
          covered = covered-after;
          within = omega (arith, kept.within, to_come-falls);
          pends = λ i c e. absurd (let z : ◌≡◌ {A = ℕ} 0 1 = cc in let f : ⊥ = omega arith in f);
        }

    -- the groups from g upward, as wished before it, are so after it
    pub stays-wished : (g : ℕ) → AsWishedFrom lent m s.state g → AsWishedFrom lent m (moved_by m s v).state g
    stays-wished g h k le below =
        let shaped = laws.tables.shaped in
        let top = highest.top in
        let low : ¬ (g ≤ top) = λ l.
        true-false (wished-met m lent valid shaped s.state kept.sound top (h top l highest.top_below))
        highest.top-unmet in
        let up = Facts.upstream-below m valid lent.plan counts shaped top j in
        let j-low : j ≤ top = ⊎_elim (λ w. omega arith) (λ w. omega (arith, up w)) highest.way in
        met-wished m lent valid shaped _ moves.sound k
        (Stays.met-elsewhere valid shaped kept.sound moves _ k (λ e. omega arith)
        ∙ wished-met m lent valid shaped s.state kept.sound k (h k le below))
