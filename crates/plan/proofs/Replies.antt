-- The replies of planning and of the plan's length: 9 to 12, the first that applies, and what the scratch's length changes.
-- Assumes nothing.
use Prim.Native.Nat.{ℕ, ◌≤◌, ◌<◌}
use mathlib.Core.Path.{◌≡◌, refl, sym, ◌∙◌}
use mathlib.Core.List.{List}
use mathlib.Core.Bool.{true, false}
use native.Mathlib.Omega.{arith}
use borrow.Author.Tests.{lt-ltb, le-ltb, eq-eqb}
use Rattle.common.specs.Lists.{up_to}
use Rattle.common.specs.Reply.{Reply, given, refused}
use Rattle.common.proofs.Bools.{true-of-not-false, or-false-intro, not-of-true}
use Rattle.common.proofs.Lists.{any-intro, any-fails}
use Rattle.common.proofs.Members.{up_to-mem, up_to-below}
use Rattle.common.proofs.Reply.{given-not-refused}
use Rattle.sheet.specs.Model.{Model}
use Rattle.sheet.specs.Parse.{Parsed, parse}
use Rattle.plan.specs.Groups.{Grouping, group_count, groups_of}
use Rattle.plan.specs.Modes.{size}
use Rattle.plan.specs.Bytes.{plan_length}
use Rattle.plan.specs.Planning.{large, large_group, large_place, large_plan, large_bound, wrong_buffer, plan_reply}
use Rattle.plan.specs.Promised.{SmallGroups, squares, own_bound, Replied, ScratchRight}
use Rattle.plan.proofs.Limits.{large-place, right-buffer, right-scratch}
use Rattle.plan.proofs.Planning.{plan-unread, plan-accepted}
use Rattle.plan.proofs.Planning.{plan-refused-9, plan-refused-10, plan-refused-11, plan-refused-12, plan-given}
use Rattle.plan.proofs.Planning.{length-refused-9, length-refused-10, length-given, length-reported}

module _ (m : Model) (groups : Grouping) where
  pub one-large : (k : ℕ) → k < group_count groups → 64 < size m groups k → large_group m groups ≡ true
  unfolding large_group large
  one-large k h l = any-intro (large m groups) (up_to-mem h) (lt-ltb _ _ l)

  pub none-large : SmallGroups m groups → large_group m groups ≡ false
  unfolding large_group large
  none-large s =
      any-fails (large m groups) (up_to (group_count groups)) (λ k l. le-ltb _ _ (s k (up_to-below (group_count groups) l)))

  pub plan-large : 16384 < squares m groups → large_plan m groups ≡ true
  unfolding large_plan
  plan-large l = lt-ltb _ _ l

  pub plan-small : squares m groups ≤ 16384 → large_plan m groups ≡ false
  unfolding large_plan
  plan-small l = le-ltb _ _ l

  pub buffers-right : (buffer scratch : ℕ) → buffer ≡ plan_length m groups → 512 ≤ scratch
      → wrong_buffer m groups buffer scratch ≡ false
  unfolding wrong_buffer
  buffers-right buffer scratch b s = or-false-intro (not-of-true (eq-eqb _ _ b)) (le-ltb _ _ s)

  pub buffers-wrong : (buffer scratch : ℕ) → (buffer ≡ plan_length m groups → 512 ≤ scratch → ⊥)
      → wrong_buffer m groups buffer scratch ≡ true
  buffers-wrong buffer scratch n =
      true-of-not-false (λ f. n (right-buffer m groups buffer scratch f) (right-scratch m groups buffer scratch f))

module _ (m : Model) where
  pub bound-large : 65535 < own_bound m → large_bound m (groups_of m) ≡ true
  unfolding large_bound
  bound-large l = lt-ltb _ _ l

  pub bound-small : own_bound m ≤ 65535 → large_bound m (groups_of m) ≡ false
  unfolding large_bound
  bound-small l = le-ltb _ _ l

pub replied : Replied
replied sheet d buffer scratch e =
    let m = d.model in
    let own = groups_of m in
    record {
      nine = λ k h l.
          let t = one-large m own k h l in
          (large_place m own, large-place m own t, plan-refused-9 sheet d e buffer scratch t, length-refused-9 sheet d e t);
      ten = λ s l.
          let f = none-large m own s in
          let t = plan-large m own l in
          (plan-refused-10 sheet d e buffer scratch f t, length-refused-10 sheet d e f t);
      eleven = λ s q l.
          plan-refused-11 sheet d e buffer scratch (none-large m own s) (plan-small m own q) (bound-large m l);
      twelve = λ s q b n.
          plan-refused-12 sheet d e buffer scratch (none-large m own s) (plan-small m own q) (bound-small m b)
          (buffers-wrong m own buffer scratch n);
      accepted = λ s q b l r.
          plan-given sheet d e buffer scratch (none-large m own s) (plan-small m own q) (bound-small m b)
          (buffers-right m own buffer scratch l r);
      reported = λ s q. length-given sheet d e (none-large m own s) (plan-small m own q);
      as-reported = λ plan. length-reported sheet d e buffer scratch;
    }

-- The scratch

module _ (sheet : List ℕ) (buffer scratch : ℕ) where
  short : scratch < 512 → (other : ℕ) (plan : List ℕ) → plan_reply sheet buffer other ≡ given plan → (r : Reply Parsed)
      → parse sheet ≡ r → plan_reply sheet buffer scratch ≡ refused 12 0
  short s other plan g (given d) e =
      let a = plan-accepted sheet d e buffer other g in
      (replied sheet d buffer scratch e).twelve a.small-groups a.small-plan a.small-bound (λ _ l. omega (arith, s, l))
  short s other plan g (refused n p) e = absurd (given-not-refused (sym g ∙ plan-unread sheet buffer other e))

pub scratch-right : (sheet : List ℕ) (buffer : ℕ) → ScratchRight sheet buffer
unfolding plan_reply wrong_buffer
scratch-right sheet buffer =
    record {
      long-enough = λ scratch other a b. rw (le-ltb scratch 512 a, le-ltb other 512 b);
      too_short = λ scratch other plan s g. short sheet buffer scratch s other plan g (parse sheet) refl;
    }
