use Prim.Native.Nat.{◌^◌, ◌<◌}
use mathlib.Core.Path.{sym}
use native.Mathlib.Omega.{arith}
use Rattle.sheet.proofs.Passing.{passed-on}
use Rattle.command.proofs.Pursuing.{Sought, pursued-placed, pursued-only, pursued-among, pursued-left}
use Rattle.command.proofs.Pursuing.{pursued-uncertain, pursued-replies}
use Rattle.command.proofs.StrandedLoop.{kept-below}
use Rattle.command.proofs.Verdicts.{refused-unless}
use Rattle.command.proofs.advising.pursue.Goals as goal
use Rattle.command.proofs.advising.pursue.Goals.{After-allowed_sets-wanted, After-upstream_of-above}

fits : (c : After-upstream_of-above) → c.args.left < 2 ^ 64
fits c = omega arith

sought : (c : After-allowed_sets-wanted) → let a = c.args in
    let q = a.question.now in
    Sought q.plan.now q.state.now q.facts.now q.zeros.now q.starts.now a.named.now a.machines.now a.masks.now
    c.allowed_sets-wanted.result a.left c.upstream_of-above.result c.join.result
sought c = record {
  fits = omega arith;
  up = c.upstream_of-above.ensures;
  joined = c.join.ensures;
  allowed = λ m. c.allowed_sets-wanted.ensures m _ _ _;
}

pub allowed_sets-wanted-requires : goal.allowed_sets-wanted-requires
allowed_sets-wanted-requires c = let p = c.requires in
    let q = p.0.2 in (
      (
        p.0.0,
        _,
        _,
        _,
        p.0.1,
        q.kept,
        q.allows,
        pursued-among q (fits (goal.at.allowed_sets-wanted-requires c).After-upstream_of-above) c.upstream_of-above.ensures c.join.ensures,
        q.members,
      ),
      p.4,
      p.3,
    )

pub failed-failed-requires : goal.failed-failed-requires
failed-failed-requires c = let (m, _, q) = c.requires.0 in
    (m, _, pursued-placed q c.numbers.ensures, q.lives)

pub cover-requires : goal.cover-requires
cover-requires c = let p = c.requires in (
  (
    p.0.0,
    _,
    p.0.1,
    pursued-uncertain p.0.2 (sought (goal.at.cover-requires c).After-allowed_sets-wanted) c.numbers.ensures c.failed-failed.ensures,
  ),
  omega (arith, c.allowed_sets-wanted.type_inv),
)

pub bounds-wanted-k : goal.bounds-wanted-k
bounds-wanted-k c = let q = c.requires.0.2 in
    kept-below q.kept (pursued-only q (fits (goal.at.bounds-wanted-k c).After-upstream_of-above) _ c.highest-k.ensures.1)

pub fulfil-requires : goal.fulfil-requires
fulfil-requires c = let (m, wish, q) = c.requires.0 in
    let on = c.highest-k.ensures.1 in (
      m,
      wish,
      q.kept,
      q.listed,
      pursued-only q (sought (goal.at.fulfil-requires c).After-allowed_sets-wanted).fits _ on,
      (pursued-left q (sought (goal.at.fulfil-requires c).After-allowed_sets-wanted)).each _ on,
    )

pub returns : goal.returns
returns c m wish q = let top = c.highest-k.ensures in
    pursued-replies q (sought (goal.at.returns c).After-allowed_sets-wanted).fits _
    (c.cover.ensures m _ wish
    (pursued-uncertain q (sought (goal.at.returns c).After-allowed_sets-wanted) c.numbers.ensures c.failed-failed.ensures))
    c.in_ok-cover.was top
    (c.fulfil.ensures m wish q.kept q.listed (pursued-only q (sought (goal.at.returns c).After-allowed_sets-wanted).fits _ top.1)
    ((pursued-left q (sought (goal.at.returns c).After-allowed_sets-wanted)).each _ top.1))

pub returns-in_err-cover : goal.returns-in_err-cover
returns-in_err-cover c m wish q =
    rw (passed-on c.from_residual.ensures.1)
    (sym (refused-unless _
    (c.cover.ensures m _ wish
    (pursued-uncertain q (sought (goal.at.returns-in_err-cover c).After-allowed_sets-wanted) c.numbers.ensures c.failed-failed.ensures))
    c.in_err-cover.was _))
