use mathlib.Core.Path.{refl, ap, ◌∙◌}
use native.Mathlib.Omega.{arith}
use borrow.Author.Rules.{rules}
use Rattle.sheet.specs.Refusal.{refusal}
use Rattle.sheet.specs.Index.{reading_of}
use Rattle.sheet.proofs.Passing.{passed-on}
use Rattle.sheet.proofs.Records.{whole-within}
use Rattle.sheet.proofs.Scanning.{reading-refused}
use Rattle.sheet.proofs.Tail.{tail-cut, tail-unknown, tail-faulty, tail-move-bytes}
use Rattle.sheet.proofs.Tail.{tail-late, tail-trailing, tail-given, tail-four-bytes, tail-three-bytes}
use Rattle.sheet.proofs.Tail.{tail-unnamed, tail-inside, tail-too-many, tail-again}
use Rattle.sheet.proofs.amending.read_tail.Goals as goal

pub returns-in_default : goal.returns-in_default
returns-in_default c = reading-refused _ c.at.result c.at.ensures
    (search tail-cut)

pub slice_bounds-body-end : goal.slice_bounds-body-end
slice_bounds-body-end c = search whole-within

pub overflow_add-end : goal.overflow_add-end
overflow_add-end c = omega (arith, slice_bounds-body-end c)

pub late-requires : goal.late-requires
late-requires c = (search rules, search (tail-move-bytes, c.in_ok-placed.ensures))

pub returns-in_default-try_from : goal.returns-in_default-try_from
returns-in_default-try_from c = reading-refused _ c.at-in_default-try_from.result c.at-in_default-try_from.ensures
    (tail-unknown c.loop-kind.invariant c.record_at.ensures c.in-Some.is c.try_from.ensures c.in_default-try_from.is)

pub returns-in-Move : goal.returns-in-Move
returns-in-Move c = reading-refused _ c.at-in-Move.result c.at-in-Move.ensures
    (search (tail-late, c.in_ok-placed.ensures, c.late.ensures))

pub returns-in-End : goal.returns-in-End
returns-in-End c =
    tail-given c.loop-kind.invariant c.record_at.ensures c.in-Some.is c.try_from.ensures c.in-Ok.is _ c.judge.ensures
    c.in_ok-placed.ensures.passed c.in-End.is c.in_ok-nothing_behind-in-End.ensures.passed c.closed-moves.ensures refl

pub named-a-requires : goal.named-a-requires
named-a-requires c = (search (tail-four-bytes, c.in_ok-placed.ensures), search (tail-three-bytes, c.in_ok-placed.ensures))

pub returns-in_default-standing : goal.returns-in_default-standing
returns-in_default-standing c = reading-refused _ c.at-in_default-standing.result c.at-in_default-standing.ensures
    (tail-unnamed c.loop-kind.invariant c.record_at.ensures c.in-Some.is c.try_from.ensures c.in-Ok.is _
    c.judge.ensures c.in_ok-placed.ensures.passed c.in_default-kind.not-Move c.in_default-kind.not-End
    c.named-a.ensures c.standing.ensures c.in_default-standing.is)

pub returns-then-amended-ge-MOST : goal.returns-then-amended-ge-MOST
returns-then-amended-ge-MOST c = reading-refused _ c.at-then-amended-ge-MOST.result c.at-then-amended-ge-MOST.ensures
    (tail-too-many c.loop-kind.invariant c.record_at.ensures c.in-Some.is c.try_from.ensures c.in-Ok.is _
    c.judge.ensures c.in_ok-placed.ensures.passed c.in_default-kind.not-Move c.in_default-kind.not-End
    c.named-a.ensures c.standing.ensures c.in-Some-standing.is c.if-amended-ge-MOST.true)

pub bounds-places-v : goal.bounds-places-v
bounds-places-v c = search (tail-inside, c.in_ok-placed.ensures)

pub offset_bounds-places-v : goal.offset_bounds-places-v
offset_bounds-places-v c = omega (arith, bounds-places-v c)

pub loop-kind-preserved : goal.loop-kind-preserved
loop-kind-preserved c = search (tail-again, c.in_ok-placed.ensures)

pub returns-in_err-placed : goal.returns-in_err-placed
returns-in_err-placed c = let z = c.in_err-placed.ensures.refused in
    ap reading_of (passed-on c.from_residual.ensures.1)
    ∙ reading-refused _ _ (ap (refusal _) z.1)
    (tail-faulty c.loop-kind.invariant c.record_at.ensures c.in-Some.is c.try_from.ensures c.in-Ok.is _ c.judge.ensures z.0)

pub returns-in_err-nothing_behind-in-End : goal.returns-in_err-nothing_behind-in-End
returns-in_err-nothing_behind-in-End c = let z = c.in_err-nothing_behind-in-End.ensures.refused in
    ap reading_of (passed-on c.from_residual-in_err-nothing_behind-in-End.ensures.1)
    ∙ reading-refused _ _ z.1
    (search (tail-trailing, c.in_ok-placed.ensures))
