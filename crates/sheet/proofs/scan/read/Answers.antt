use mathlib.Core.Path.{ap, ◌∙◌}
use mathlib.Core.Bool.{not}
use native.Mathlib.Omega.{arith}
use borrow.Author.Rules.{rules}
use Rattle.sheet.specs.Refusal.{refusal}
use Rattle.sheet.specs.Index.{reading_of}
use Rattle.sheet.specs.declared.kind.Kind.TheVariants.{Machine, Move}
use Rattle.sheet.proofs.Numbered.{kind-other, kind-unknown}
use Rattle.sheet.proofs.Passing.{passed-on}
use Rattle.sheet.proofs.Records.{whole-within}
use Rattle.sheet.proofs.Scanning.{scan-start, scan-cut, reading-refused}
use Rattle.sheet.proofs.ScanTurns.{machine-second, machine-room, machine-few}
use Rattle.sheet.proofs.ScanTurns.{move-bytes, move-room}
use Rattle.sheet.proofs.ScanTurns.{machine-faulty, scan-machine, move-faulty, scan-repeated, scan-move}
use Rattle.sheet.proofs.ScanTurns.{end-faulty, scan_trailing, scan-given, scan-tail}
use Rattle.sheet.proofs.scan.read.Goals as goal
use Rattle.sheet.proofs.scan.read.Goals.{in_default-try_from-via-in-Ok+in_default, in_default-try_from-via-in_default}

pub loop-kind-init : goal.loop-kind-init
loop-kind-init c = search scan-start

pub returns-in_default : goal.returns-in_default
returns-in_default c = reading-refused _ c.at.result c.at.ensures
    (search scan-cut)

pub slice_bounds-body-end : goal.slice_bounds-body-end
slice_bounds-body-end c = search whole-within

pub overflow_add-end : goal.overflow_add-end
overflow_add-end c = omega (arith, slice_bounds-body-end c)

pub loop-kind-preserved-in-Machine-1 : goal.loop-kind-preserved-in-Machine-1
loop-kind-preserved-in-Machine-1 c = scan-machine c.loop-kind.invariant c.record_at.ensures c.in-Some.is
    c.try_from.ensures c.in-Ok-Machine.is c.in-Ok-Machine.field-0-is _ c.judge_machine.ensures c.in_ok-placed-in-Ok-Machine.ensures.passed c.add.ensures

pub add-requires : goal.add-requires
add-requires c = (
  search (machine-second, c.in_ok-placed-in-Ok-Machine.ensures),
  search (machine-few, c.in_ok-placed-in-Ok-Machine.ensures),
  machine-room c.loop-kind.invariant c.record_at.ensures c.in-Some.is c.try_from.ensures c.in-Ok-Machine.is c.in-Ok-Machine.field-0-is _ c.judge_machine.ensures
      c.in_ok-placed-in-Ok-Machine.ensures.passed,
)

pub add-requires-in-Ok-Move : goal.add-requires-in-Ok-Move
add-requires-in-Ok-Move c = (
  search rules,
  search (move-bytes, c.in_ok-placed-in-Ok-Move.ensures),
  move-room c.loop-kind.invariant c.record_at.ensures c.in-Some.is c.try_from.ensures c.in-Ok-Move.is c.in-Ok-Move.field-0-is _ c.judge_move.ensures
      c.in_ok-placed-in-Ok-Move.ensures.passed,
)

pub returns-then-not-add : goal.returns-then-not-add
returns-then-not-add c = reading-refused _ c.at-then-not-add.result c.at-then-not-add.ensures
    (scan-repeated c.loop-kind.invariant c.record_at.ensures c.in-Some.is
    c.try_from.ensures c.in-Ok-Move.is c.in-Ok-Move.field-0-is _ c.judge_move.ensures c.in_ok-placed-in-Ok-Move.ensures.passed c.add-in-Ok-Move.ensures
    (ap not c.if-not-add.true))

pub bounds-machines-moves : goal.bounds-machines-moves
bounds-machines-moves c =
    move-room c.loop-kind.invariant c.record_at.ensures c.in-Some.is c.try_from.ensures c.in-Ok-Move.is c.in-Ok-Move.field-0-is _ c.judge_move.ensures
    c.in_ok-placed-in-Ok-Move.ensures.passed

pub loop-kind-preserved : goal.loop-kind-preserved
loop-kind-preserved c =
    scan-move c.loop-kind.invariant c.record_at.ensures c.in-Some.is c.try_from.ensures c.in-Ok-Move.is c.in-Ok-Move.field-0-is _ c.judge_move.ensures
    c.in_ok-placed-in-Ok-Move.ensures.passed
    c.add-in-Ok-Move.ensures (ap not c.if-not-add.false)

pub returns-in-Ok-End : goal.returns-in-Ok-End
returns-in-Ok-End c = search (scan-given, c.in_ok-placed-in-Ok-End.ensures, c.in_ok-nothing_behind-in-Ok-End.ensures)

pub read_tail-requires : goal.read_tail-requires
read_tail-requires c =
    let named = c.try_from.ensures in
    elim c.in_default-try_from.branch [
      | in_default-try_from-via-in-Ok+in_default x ↦
          let y = x.in_default-try_from in
          scan-tail c.loop-kind.invariant c.record_at.ensures c.in-Some.is
          (kind-other named {other = Machine} y.is (search rules)) (kind-other named {other = Move} y.is (search rules))
      | in_default-try_from-via-in_default x ↦
          let y = x.in_default-try_from in
          scan-tail c.loop-kind.invariant c.record_at.ensures c.in-Some.is (kind-unknown named y.is Machine) (kind-unknown named y.is Move)
    ]

pub returns-in_err-placed-in-Ok-Machine : goal.returns-in_err-placed-in-Ok-Machine
returns-in_err-placed-in-Ok-Machine c = let z = c.in_err-placed-in-Ok-Machine.ensures.refused in
    ap reading_of (passed-on c.from_residual.ensures.1)
    ∙ reading-refused _ _ (ap (refusal _) z.1)
    (machine-faulty c.loop-kind.invariant c.record_at.ensures c.in-Some.is
    c.try_from.ensures c.in-Ok-Machine.is c.in-Ok-Machine.field-0-is _ c.judge_machine.ensures z.0)

pub returns-in_err-placed-in-Ok-Move : goal.returns-in_err-placed-in-Ok-Move
returns-in_err-placed-in-Ok-Move c = let z = c.in_err-placed-in-Ok-Move.ensures.refused in
    ap reading_of (passed-on c.from_residual-in_err-placed-in-Ok-Move.ensures.1)
    ∙ reading-refused _ _ (ap (refusal _) z.1)
    (move-faulty c.loop-kind.invariant c.record_at.ensures c.in-Some.is c.try_from.ensures c.in-Ok-Move.is c.in-Ok-Move.field-0-is _ c.judge_move.ensures z.0)

pub returns-in_err-placed-in-Ok-End : goal.returns-in_err-placed-in-Ok-End
returns-in_err-placed-in-Ok-End c = let z = c.in_err-placed-in-Ok-End.ensures.refused in
    ap reading_of (passed-on c.from_residual-in_err-placed-in-Ok-End.ensures.1)
    ∙ reading-refused _ _ (ap (refusal _) z.1)
    (end-faulty c.loop-kind.invariant c.record_at.ensures c.in-Some.is c.try_from.ensures c.in-Ok-End.is c.in-Ok-End.field-0-is _ c.judge_end.ensures z.0)

pub returns-in_err-nothing_behind-in-Ok-End : goal.returns-in_err-nothing_behind-in-Ok-End
returns-in_err-nothing_behind-in-Ok-End c = let z = c.in_err-nothing_behind-in-Ok-End.ensures.refused in
    ap reading_of (passed-on c.from_residual-in_err-nothing_behind-in-Ok-End.ensures.1)
    ∙ reading-refused _ _ z.1
    (search (scan_trailing, c.in_ok-placed-in-Ok-End.ensures))
