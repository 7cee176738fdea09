use Prim.Native.Nat.{◌≤◌}
use mathlib.Core.Path.{◌≡◌, sym, ap, ◌∙◌}
use native.Mathlib.Omega.{arith}
use borrow.Author.Rules.{rules}
use mathlib.Core.Bool.{true, not}
use Rattle.sheet.proofs.Indexed.{indexes-valid}
use Rattle.plan.specs.Reading.{well_shaped}
use Rattle.plan.specs.Kept.Outline.{Outlined}
use Rattle.plan.proofs.PlanShape.{numbers-wrong, numbers-right, numbers-below, count-few, outlined}
use Rattle.plan.proofs.SheetGroups.{few-machines}
use Rattle.command.specs.Kept.Question.{Opened}
use Rattle.command.proofs.Testing.{shape-refused, shape-passed}
use Rattle.command.proofs.advising.test_shape.Goals as goal
use Rattle.command.proofs.advising.test_shape.Goals.{After-in_shape, After-of-groups}

pub slice_bounds-starts-end : goal.slice_bounds-starts-end
slice_bounds-starts-end c = search rules

-- the numbers have passed, and so there are few groups
few : (c : After-of-groups) → c.of-groups.result.count ≤ 32
few c = let i = c.requires.1 in
    count-few i _ c.numbers_fit.ensures (ap not c.if-not-numbers_fit.false) c.body.ensures
    (c.of-groups.ensures _ i)

-- what is kept of the plan, and whether it is in shape
kept : (c : After-in_shape) → Outlined c.requires.0 c.args.plan.now c.of-groups.result c.starts-starts.result
kept c = let i = c.requires.1 in
    outlined i _ c.numbers_fit.ensures (ap not c.if-not-numbers_fit.false) c.body.ensures
    (c.of-groups.ensures _ i) c.starts-starts.ensures

judged : (c : After-in_shape) → c.in_shape.result ≡ well_shaped c.requires.0 c.args.plan.now
judged c = let i = c.requires.1 in
    c.in_shape.ensures _ (indexes-valid i)
    (numbers-right i _ c.numbers_fit.ensures (ap not c.if-not-numbers_fit.false)) (kept c)

-- it is in shape: what is opened
opened : (c : After-in_shape) → c.in_shape.result ≡ true → Opened c.requires.0 c.args.file.now c.args.plan.now c.args.sheet
    c.of-groups.result c.starts-starts.result
opened c shaped = record {
  indexes = c.requires.1;
  shaped = sym (judged c) ∙ shaped;
  outlined = kept c;
  long = omega (arith, c.starts-starts.type_inv);
}

pub numbers_fit-requires : goal.numbers_fit-requires
numbers_fit-requires c = search few-machines

pub returns-then-not-numbers_fit : goal.returns-then-not-numbers_fit
returns-then-not-numbers_fit c = rw c.at.ensures (search (shape-refused, numbers-wrong))

pub of-groups-requires : goal.of-groups-requires
of-groups-requires c = (c.requires, search numbers-below)

pub starts-starts-requires : goal.starts-starts-requires
starts-starts-requires c = let l = few (goal.at.starts-starts-requires c).After-of-groups in
    (l, omega (arith, slice_bounds-starts-end c), few-machines c.requires)

pub in_shape-requires : goal.in_shape-requires
in_shape-requires c = (few (goal.at.in_shape-requires c).After-of-groups, omega (arith, c.starts-starts.type_inv))

pub returns-then-not-in_shape : goal.returns-then-not-in_shape
returns-then-not-in_shape c =
    rw c.at-then-not-in_shape.ensures
    (shape-refused c.requires.1 _ _ _ (sym (judged (goal.at.returns-then-not-in_shape c).After-in_shape) ∙ c.if-not-in_shape.true))

pub test_state-requires : goal.test_state-requires
test_state-requires c = (c.requires.0, opened (goal.at.test_state-requires c).After-in_shape c.if-not-in_shape.false)

pub returns : goal.returns
returns c = let p = c.requires in
    c.test_state.ensures p.0 (opened (goal.at.returns c).After-in_shape c.if-not-in_shape.false)
    ∙ sym (shape-passed p.1 _ _ _ (opened (goal.at.returns c).After-in_shape c.if-not-in_shape.false).shaped)
