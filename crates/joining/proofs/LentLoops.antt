-- The loops over the lent goals: whether they are whole, the test of each, and the longest.
-- Assumes nothing.
use Prim.Native.Nat.{ℕ, suc, ◌+◌, ◌-◌, ◌≤◌, ◌<◌, max}
use mathlib.Core.Path.{◌≡◌, refl, sym, ap, ◌∙◌}
use mathlib.Core.List.{List, [], ◌∷◌}
use mathlib.Core.Bool.{◌&&◌, and-true, and-false}
use native.Mathlib.Omega.{arith}
use borrow.Author.Tests.{le-leb, leb-true, leb-false, ltb-true, ltb-false, eq-eqb, ne_eqb}
use lib.Dec.{leb, ltb, eqb}
use lib.ListN.{length, drop}
use Rattle.std.specs.Prelude.{Result, Ok, Err}
use Rattle.common.specs.Lists.{maximum}
use Rattle.common.specs.Reply.{Reply, given, refused, unless, and_then}
use Rattle.common.proofs.Bools.{by_cases}
use Rattle.common.proofs.Clear.{unless-append-clear}
use Rattle.sheet.specs.declared.refusal.Refusal.{Refusal}
use Rattle.sheet.specs.Record.{byte, part}
use Rattle.sheet.specs.Model.{Model, machine_count}
use Rattle.plan.specs.Kept.Sizes.{CountsOf}
use Rattle.sheet.specs.Refusal.{verdict_says}
use Rattle.command.specs.Goal.{goal_faults}
use Rattle.command.proofs.Verdicts.{accepted-clear, refused-first}
use Rattle.joining.specs.Join.{Goals, most_goals, goals_in, longest_goal, each_faults}
use Rattle.joining.specs.Kept.Coming.{Front}
use Rattle.joining.specs.Kept.Lent.{is_given, Splits}
use Rattle.joining.proofs.Splitting.{none_left, one-too-many, next-cut, next-whole}
use Rattle.joining.proofs.Splitting.{ReadTo, read_none, read_first, read_next, read-end}

-- Whether the goals are whole

-- they are, where those from a place on are and that place is not past the end
pub record WholeFrom (lent : List ℕ) (left at : ℕ) : Type 0 where
  pub same : is_given (goals_in most_goals lent) ≡ (is_given (goals_in left (drop at lent)) && leb at (length lent))

given-more : {A B : Type 0} (r : Reply A) (f : A → B) → is_given (and_then r (λ a. given (f a))) ≡ is_given r
unfolding and_then
given-more (given a) f = refl
given-more (refused n p) f = refl

module _ (lent : List ℕ) where
  pub whole-none : WholeFrom lent 8 0
  whole-none = record { same = rw (le-leb 0 (length lent) (omega arith), and-true) }

  pub whole-next : (i : ℕ) {at next : ℕ} → i < 8 → WholeFrom lent (8 - i) at → at < length lent
      → next ≡ at + 1 + byte lent at → WholeFrom lent (8 - (i + 1)) next
  whole-next i {at} {next} k h l e =
      let longer : Goals → Goals = λ goals. part lent (at + 1) (byte lent at) ∷ goals in
      let one : 8 - i ≡ suc (8 - (i + 1)) = omega arith in
      record {
        same =
            h.same
            ∙ by_cases (leb next (length lent))
            (λ t.
            let w : at + 1 + byte lent at ≤ length lent = omega (arith, leb-true) in
            rw (t, e, one, next-whole lent at l _ w, given-more _ longer, le-leb at (length lent) (omega arith)))
            (λ f.
            let w : length lent < at + 1 + byte lent at = omega (arith, leb-false) in
            rw (f, and-false, one, next-cut lent at l _ w));
      }

  pub whole-past : {left at : ℕ} → WholeFrom lent left at → length lent ≤ at
      → eqb at (length lent) ≡ is_given (goals_in most_goals lent)
  whole-past {left} {at} h l =
      sym
      (h.same ∙ rw (none_left lent at left l)
      (by_cases (leb at (length lent))
      (λ t. t ∙ sym (eq-eqb at (length lent) (omega (arith, leb-true))))
      (λ f. f ∙ sym (ne_eqb at (length lent) (omega (arith, leb-false))))))

  pub whole-end : {i at : ℕ} → 8 ≤ i → WholeFrom lent (8 - i) at → eqb at (length lent) ≡ is_given (goals_in most_goals lent)
  whole-end {i} {at} k h =
      by_cases (ltb at (length lent))
      (λ t.
      let l : at < length lent = omega (arith, ltb-true) in
      let none : 8 - i ≡ 0 = omega arith in
      ne_eqb at (length lent) (omega arith) ∙ sym (h.same ∙ rw (none, one-too-many lent at l)))
      (λ f. whole-past h (omega (arith, ltb-false)))

-- The test of each goal

-- for n machines of these mode counts the verdict on all goals is that on those that are left
pub record Passed (modes : List ℕ) (n : ℕ) (every rest : Goals) : Type 0 where
  pub left : (m : Model) → CountsOf m modes → n ≡ machine_count m
      → unless (each_faults m every) (given (tt {0})) ≡ unless (each_faults m rest) (given (tt {0}))

module _ {lent modes : List ℕ} {n : ℕ} where
  pub passed_none : (every : Goals) → Splits lent every → ReadTo lent lent (Passed modes n)
  passed_none every h = read_none (Passed modes n) every h (record { left = λ m q e. refl })

  module _ {rest : List ℕ} (i : ReadTo lent rest (Passed modes n)) where
    -- the verdict on the next goal
    module _ {goal others : List ℕ} {v : Result Unit Refusal} (f : Front rest goal others)
        (says : (m : Model) → CountsOf m modes → n ≡ machine_count m
        → verdict_says v ≡ unless (goal_faults m goal) (given tt)) where
      pub passed-next : v ≡ Ok tt → ReadTo lent others (Passed modes n)
      unfolding each_faults
      passed-next a =
          read_next (Passed modes n) i f (Passed modes n) (λ every later k.
          record {
            left = λ m q e.
                k.left m q e
                ∙ unless-append-clear (goal_faults m goal) (each_faults m later) _
                (accepted-clear (goal_faults m goal) (says m q e) a);
          })

      pub passed-refused : {why : Refusal} → v ≡ Err why → (m : Model) (every : Goals)
          → CountsOf m modes → n ≡ machine_count m → Splits lent every
          → verdict_says v ≡ unless (each_faults m every) (given tt)
      unfolding each_faults
      passed-refused a m every q e h =
          let r = read_first (Passed modes n) i f h in
          ap verdict_says a
          ∙ sym (r.1.left m q e ∙ refused-first (goal_faults m goal) (says m q e) a (each_faults m r.0) (given tt))

    pub passed-end : rest ≡ [] → (m : Model) (every : Goals) → CountsOf m modes → n ≡ machine_count m
        → Splits lent every → given (tt {0}) ≡ unless (each_faults m every) (given tt)
    unfolding each_faults unless
    passed-end z m every q e h = sym ((read-end (Passed modes n) i z h).left m q e)

-- The longest goal

-- r is the length of the longest of those that are read
pub record Longest (r : ℕ) (every rest : Goals) : Type 0 where
  pub longer : max r (longest_goal rest) ≡ longest_goal every

module _ {lent : List ℕ} where
  pub longest-none : (every : Goals) → Splits lent every → ReadTo lent lent (Longest 0)
  longest-none every h = read_none (Longest 0) every h (record { longer = omega arith })

  module _ {rest : List ℕ} {r : ℕ} (i : ReadTo lent rest (Longest r)) where
    pub longest-next : {goal others : List ℕ} {q : ℕ} → Front rest goal others → q ≡ max r (length goal)
        → ReadTo lent others (Longest q)
    unfolding longest_goal maximum
    longest-next {q = q} f m = read_next (Longest r) i f (Longest q) (λ every later k. record { longer = omega (arith, k.longer) })

    pub longest-end : {every : Goals} → rest ≡ [] → Splits lent every → r ≡ longest_goal every
    unfolding longest_goal maximum
    longest-end z h = omega (arith, (read-end (Longest r) i z h).longer)
