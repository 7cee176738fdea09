-- The groups that a goal leaves unmet, as a set: none is left and the goal is fulfilled, or the highest is followed once
-- 16 to 18 pass.
-- Assumes nothing.
use Prim.Native.Nat.{ℕ, ◌^◌, ◌≤◌, ◌<◌}
use mathlib.Core.Path.{◌≡◌, sym, ◌∙◌}
use mathlib.Core.List.{List, []}
use mathlib.Core.Bool.{true, false}
use native.Mathlib.Omega.{arith}
use borrow.Author.Tests.{ltb-true, ltb-false, not-true, not-false}
use lib.Dec.{ltb}
use Rattle.common.specs.Bits.{bit}
use Rattle.common.specs.Reply.{given, unless}
use Rattle.common.proofs.Bools.{by_cases, true-false, not-of-true}
use Rattle.common.proofs.Lists.{all-intro}
use Rattle.common.proofs.Clear.{clear-each, each-clear, clear-flat_map}
use Rattle.common.proofs.Reply.{unless-clear}
use Rattle.sets.proofs.Laws.{bit-none}
use Rattle.sets.proofs.Members.{bit-small}
use Rattle.sheet.specs.Model.{Model}
use Rattle.plan.specs.Groups.{Grouping, group_count, members}
use Rattle.plan.specs.Reading.{groups_in}
use Rattle.plan.proofs.Modes.{member_below, member_of}
use Rattle.plan.proofs.Named.{group-below-count}
use Rattle.command.specs.Goal.{Masks, met}
use Rattle.common.specs.Lists.{down_to}
use Rattle.command.specs.Attainable.{attain_faults, cover_faults}
use Rattle.command.specs.Next.{done, follow_by, fulfil}
use Rattle.command.specs.Kept.Question.{Placed, GroupsOnly, UnmetSet}
use Rattle.command.proofs.GroupVerdict.{Top}
use Rattle.command.proofs.Highest.{down_to-below}
use Rattle.command.proofs.Picked.{fulfil-all-met, fulfil-highest}
use Rattle.command.proofs.Placing.{placed-count}

module _ {m : Model} {plan state numbers : List ℕ} (p : Placed m plan state numbers) {goal : Masks} {left : ℕ}
    (u : UnmetSet m plan state goal left) where
  abbrev own : Grouping
  own = groups_in m plan

  abbrev count : ℕ
  count = group_count (groups_in m plan)

  -- a group that no machine has is met
  absent-met : (k : ℕ) → count ≤ k → met own goal state k ≡ true
  unfolding met
  absent-met k h =
      all-intro _ (members own k) (λ i l.
      absurd (let f : ⊥ = omega (arith, member_of own k l, group-below-count own i (member_below own k l)) in f))

  pub left-only : left < 2 ^ 64 → GroupsOnly m plan left
  left-only fits k t =
      by_cases (ltb k count)
      (λ y. ltb-true _ _ y)
      (λ n.
      absurd (true-false t (u.bits k (bit-small left k fits t) ∙ not-of-true (absent-met k (ltb-false k count n)))))

  others-met : (k : ℕ) → k < count → bit left k ≡ false → met own goal state k ≡ true
  others-met k h f = not-false _ (sym (u.bits k (omega (arith, placed-count p))) ∙ f)

  -- none
  pub none_left : left ≡ 0
      → given done ≡ unless (cover_faults m plan state goal) (fulfil m plan state goal (group_count (groups_in m plan)))
  unfolding attain_faults
  none_left z =
      let each : (k : ℕ) → k < count → met own goal state k ≡ true = λ k h. others-met k h (rw z (bit-none k)) in
      sym (unless-clear _ _ (clear-each _ (clear-flat_map _ (down_to count) ∙ all-intro _ (down_to count) (λ k l.
      rw (each k (down_to-below count l)) (each-clear [] tt))))
      ∙ fulfil-all-met m plan state goal count each)

  -- the highest
  pub highest-left : (k : ℕ) → left < 2 ^ 64 → Top left k
      → fulfil m plan state goal (group_count (groups_in m plan))
      ≡ follow_by m plan state (λ needs. fulfil m plan state needs k) goal k
  highest-left k fits t =
      fulfil-highest m plan state count (record {
        below = left-only fits k t.1;
        unmet = not-true _ (sym (u.bits k t.0) ∙ t.1);
        above-met = λ j l h. others-met j h (t.2 j l);
      })
