use native.Mathlib.Omega.{arith}
use Rattle.sheet.proofs.Indexed.{indexes-valid, indexes-machines, indexes-modes, indexes-array}
use Rattle.sheet.proofs.Passing.{passed-on}
use Rattle.command.proofs.Acted.{accepted-says, accepted-leaves, refused_says, refused-leaves}
use Rattle.command.proofs.Verdicts.{accepted-clear}
use Rattle.command.proofs.acting.test.Goals as goal

pub check-requires : goal.check-requires
check-requires c = let i = c.requires.1 in
    (omega (arith, indexes-machines i, (indexes-valid i).few-machines), indexes-array i)

pub act-requires : goal.act-requires
act-requires c = let p = c.requires in
    let told = c.check.ensures p.0 (indexes-modes p.1) (indexes-machines p.1) in
    (p.0, p.1, accepted-clear _ told c.in_ok-check.was)

pub returns : goal.returns
returns c = let act = c.act.ensures in
    let check = c.check.ensures in
    let accepted = c.in_ok-check.was in record {
      reply = λ d i.
          let passes = accepted-clear _ (check d (indexes-modes i) (indexes-machines i)) accepted in
          accepted-says d _ _ _ passes (act.reply d i passes);
      left = λ d i.
          let passes = accepted-clear _ (check d (indexes-modes i) (indexes-machines i)) accepted in
          accepted-leaves d _ _ _ passes (act.left d i passes);
    }

pub returns-in_err-check : goal.returns-in_err-check
returns-in_err-check c = let check = c.check.ensures in
    let turned = c.in_err-check.was in record {
      reply = λ d i.
          rw (passed-on c.from_residual.ensures.1)
          (refused_says d _ _ _ (check d (indexes-modes i) (indexes-machines i)) turned);
      left = λ d i. refused-leaves d _ _ _ (check d (indexes-modes i) (indexes-machines i)) turned;
    }
