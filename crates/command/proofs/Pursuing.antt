-- A goal that leaves groups unmet, judged by 16 to 18 and then followed: what its callees are told, and what they say.
-- Assumes nothing.
use Prim.Native.Nat.{ℕ, ◌^◌, ◌<◌}
use mathlib.Core.Path.{◌≡◌, refl, sym, ◌∙◌}
use mathlib.Core.Logic.{⊎_elim}
use mathlib.Core.List.{List}
use mathlib.Core.Bool.{Bool, true}
use Rattle.std.specs.Prelude.{Result, Ok}
use Rattle.common.specs.Bits.{bit}
use Rattle.common.specs.Lists.{pad}
use Rattle.common.specs.Reply.{Reply, given, unless}
use Rattle.common.proofs.Bools.{or_left, or_right, or_cases}
use Rattle.sets.specs.Kept.Sets.{union}
use Rattle.sets.proofs.Laws.{bit-union}
use Rattle.sheet.specs.declared.refusal.Refusal.{Refusal}
use Rattle.sheet.specs.Model.{Model}
use Rattle.sheet.specs.Valid.{Valid}
use Rattle.plan.specs.Groups.{group_count}
use Rattle.sheet.specs.Refusal.{verdict_says}
use Rattle.plan.specs.Kept.Partition.{MemberSets}
use Rattle.plan.specs.Reading.{groups_in, well_shaped, every_move}
use Rattle.command.specs.Goal.{Masks}
use Rattle.command.specs.Attainable.{cover_faults}
use Rattle.command.specs.Next.{Next, follow_by, fulfil}
use Rattle.command.specs.Kept.Question.{Allows, Placed, Kept, GroupsOnly, FailedSet, NamedBy, UpstreamOfSome}
use Rattle.command.specs.Kept.Question.{machines_in, AllowedSets, KeptGoal, Uncertain, numbers_in}
use Rattle.command.proofs.CoverLoop.{above-only}
use Rattle.command.proofs.GroupVerdict.{Top}
use Rattle.command.proofs.LeftUnmet.{left-only, highest-left}
use Rattle.command.proofs.Placing.{kept-placed}
use Rattle.command.proofs.Verdicts.{accepted-unless}

-- The groups that a question looks at, as the code finds them: those upstream of the unmet ones, both together, and what the
-- goal allows of each
pub record Sought (plan state facts zeros starts named machines masks wanted : List ℕ) (left above among : ℕ) : Type 0 where
  pub fits : left < 2 ^ 64
  pub up : (m : Model) (plan : List ℕ) (counts : ℕ → Bool) → Valid m → well_shaped m plan ≡ true → NamedBy m plan counts named
      → UpstreamOfSome m plan counts left above
  pub joined : among ≡ union above left
  pub allowed : (m : Model) (goal : Masks) → Kept m plan state facts zeros starts
      → Allows m goal masks → GroupsOnly m plan among → MemberSets (groups_in m plan) machines
      → AllowedSets m plan goal among wanted

module _ {m : Model} {file plan state : List ℕ} {goal : Masks} {places starts facts zeros named machines live masks : List ℕ}
    {left : ℕ} (q : KeptGoal m file plan state goal places starts facts zeros named machines live masks left) where
  -- by the numbers of the groups
  pub pursued-placed : {own : List ℕ} → own ≡ numbers_in facts (machines_in state) → Placed m plan state own
  pursued-placed e = kept-placed q.kept e

  module _ (fits : left < 2 ^ 64) where
    pub pursued-only : GroupsOnly m plan left
    pursued-only = left-only q.kept.placed q.leaves fits

    module _ {above : ℕ} (up : (m : Model) (plan : List ℕ) (counts : ℕ → Bool) → Valid m → well_shaped m plan ≡ true
        → NamedBy m plan counts named
        → UpstreamOfSome m plan counts left above) where
      pursued-upper : UpstreamOfSome m plan every_move left above
      pursued-upper = up m plan every_move q.kept.placed.valid q.kept.placed.shaped q.naming

      pub pursued-among : {among : ℕ} → among ≡ union above left → GroupsOnly m plan among
      pursued-among j k t =
          ⊎_elim (above-only pursued-only pursued-upper k) (pursued-only k)
          (or_cases (bit above k) (bit left k) (sym (bit-union above left k) ∙ rw j at t))

    -- 16 to 18 pass, and the highest is followed
    pub pursued-replies : (k : ℕ) {v : Result Unit Refusal} {r : Reply Next}
        → verdict_says v ≡ unless (cover_faults m plan state goal) (given tt) → v ≡ Ok tt → Top left k
        → r ≡ follow_by m plan state (λ needs. fulfil m plan state needs k) goal k
        → r ≡ unless (cover_faults m plan state goal) (fulfil m plan state goal (group_count (groups_in m plan)))
    pursued-replies k e a top s =
        s ∙ sym (accepted-unless _ e _ a ∙ highest-left q.kept.placed q.leaves k fits top)

  module _ {wanted : List ℕ} {above among : ℕ} (s : Sought plan state facts zeros starts named machines masks wanted left above among) where
    both : AllowedSets m plan goal among wanted
    both =
        s.allowed m goal q.kept q.allows (pursued-among s.fits s.up s.joined) q.members

    pub pursued-left : AllowedSets m plan goal left wanted
    pursued-left = record { each = λ k t. both.each k (rw (s.joined, bit-union) (or_right (bit above k) t)) }

    pursued-above : AllowedSets m plan goal above wanted
    pursued-above = record { each = λ k t. both.each k (rw (s.joined, bit-union) (or_left (bit left k) t)) }

    -- what `cover` asks, by the numbers of the groups and those that are not live
    pub pursued-uncertain : {own : List ℕ} {failed : ℕ} → own ≡ numbers_in facts (machines_in state)
        → ((m : Model) (plan : List ℕ) → Placed m plan state own → live ≡ pad 32 m.live → FailedSet m plan state failed)
        → Uncertain m file plan state goal places starts facts zeros (numbers_in facts (machines_in state)) wanted left failed above
    pursued-uncertain e g =
        record {
          leaves = record {
            kept = q.kept;
            numbered = (pursued-placed refl).numbered;
            unmet-groups = q.leaves;
            only = pursued-only s.fits;
            allows = pursued-left;
          };
          listed = q.listed;
          not_live = g m plan (pursued-placed e) q.lives;
          upper = pursued-upper s.fits s.up;
          allows-above = pursued-above;
        }
