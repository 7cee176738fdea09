-- The test of one record of a plan, step by step; the body of a record that passes it, the table of a group and the
-- bound.
-- Assumes nothing.
use Prim.Native.Nat.{ℕ, ◌+◌, ◌≤◌}
use mathlib.Core.Path.{◌≡◌, sym, ap, ◌∙◌}
use mathlib.Core.List.{List}
use mathlib.Core.Bool.{Bool, true, false, ◌&&◌}
use native.Mathlib.Omega.{arith}
use borrow.Author.Tests.{eq-eqb, ne_eqb}
use lib.Dec.{eqb}
use lib.ListN.{length}
use Rattle.std.specs.Prelude.{Option, Some, None}
use Rattle.sheet.specs.declared.record.Record.{Record}
use Rattle.sheet.specs.Record.{word, record_at, part, body_of, body_at}
use Rattle.sheet.specs.Model.{Model}
use Rattle.sheet.proofs.Records.{whole_here, part_length}
use Rattle.plan.specs.Groups.{group_count}
use Rattle.plan.specs.Bytes.{table_at}
use Rattle.plan.specs.Reading.{is_whole, has_record, gapless, groups_in, bound_in}
use Rattle.plan.specs.Kept.Outline.{bound_at}
use Rattle.plan.proofs.Bytes.{shown-whole}

-- what `read` answers, and the test
module _ (s : List ℕ) (at : ℕ) {r : Option Record} (e : r ≡ record_at s at) (k n : ℕ) where
  pub record-cut : r ≡ None → false ≡ has_record s at k n
  unfolding has_record
  record-cut q = sym (ap (λ x. is_whole x k n) (sym e ∙ q))

  module _ {it : Record} (q : r ≡ Some it) where
    pub record-other : (it.kind ≡ k → ⊥) → false ≡ has_record s at k n
    unfolding has_record
    record-other h = sym (ap (λ x. is_whole x k n) (sym e ∙ q) ∙ rw (ne_eqb it.kind k h))

    pub record-long : it.kind ≡ k → eqb it.len n ≡ has_record s at k n
    unfolding has_record
    record-long h = sym (ap (λ x. is_whole x k n) (sym e ∙ q) ∙ rw (eq-eqb it.kind k h))

-- the body of a record that passes
pub shown-body : (s : List ℕ) (at k n : ℕ) → has_record s at k n ≡ true → body_at s at ≡ part s (at + 4) n
unfolding body_at
shown-body s at k n t =
    let w = shown-whole {s = s} {at = at} k n t in
    let e : word s at ≡ n = sym w.length-word in
    ap (body_of s) (whole_here s at (rw e w.within)) ∙ ap (part s (at + 4)) e

pub shown-length : (s : List ℕ) (at k n : ℕ) → has_record s at k n ≡ true → length (body_at s at) ≡ n
shown-length s at k n t =
    ap length (shown-body s at k n t) ∙ part_length s (at + 4) n (shown-whole {s = s} {at = at} k n t).within

-- the numbers of a plan, where their record passes
module _ (plan : List ℕ) (n : ℕ) {b : Bool} (e : b ≡ has_record plan 0 16 n) where
  pub body-few : {body : List ℕ} → b ≡ true → body ≡ body_at plan 0 → n ≤ 32 → length body ≤ 32
  body-few t q few = rw q (omega (arith, shown-length plan 0 16 n (sym e ∙ t)))

  pub numbers-judged : {g : Bool} {body : List ℕ} → b ≡ true → body ≡ body_at plan 0 → g ≡ gapless body
      → g ≡ (has_record plan 0 16 n && gapless (part plan 4 n))
  numbers-judged t q judged = judged ∙ rw (sym e ∙ t) (ap gapless (q ∙ shown-body plan 0 16 n (sym e ∙ t)))

  pub numbers-missing : b ≡ false → false ≡ (has_record plan 0 16 n && gapless (part plan 4 n))
  numbers-missing f = rw (sym e ∙ f)

-- In a plan in shape

-- the bound is read behind the last table
pub bound-at : (m : Model) (plan : List ℕ)
    → bound_at plan (table_at m (groups_in m plan) (group_count (groups_in m plan))) ≡ bound_in m plan
unfolding bound_at bound_in word
bound-at m plan =
    let at : ℕ = table_at m (groups_in m plan) (group_count (groups_in m plan)) in
    let e : at + 4 + 2 ≡ at + 6 = omega arith in
    let f : at + 4 + 3 ≡ at + 6 + 1 = omega arith in
    rw (e, f) (omega arith)
