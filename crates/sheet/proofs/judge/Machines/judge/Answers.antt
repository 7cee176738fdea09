use mathlib.Core.Path.{ap}
use Rattle.common.specs.Reply.{unless}
use Rattle.sheet.specs.Kept.Kinds.{kind_number}
use Rattle.sheet.proofs.Judging.{own-machine, own-move, own-end, own-replace, own-withdraw, own-unknown}
use Rattle.sheet.proofs.Numbered.{kinds-differ}
use Rattle.sheet.proofs.judge.Machines.judge.Goals as goal

pub returns-in-Machine : goal.returns-in-Machine
returns-in-Machine c m at h = rw (own-machine m at _ _ (ap kind_number c.in-Machine.is)) (c.judge_machine.ensures m at h.counted)

pub returns-in-Move : goal.returns-in-Move
returns-in-Move c m at h = rw (own-move m at _ _ (ap kind_number c.in-Move.is)) (c.judge_late.ensures m at h)

pub returns-in-End : goal.returns-in-End
returns-in-End c m at h = rw (own-end m at _ _ (ap kind_number c.in-End.is)) (c.judge_end.ensures m at h.counted.machines-are)

pub returns-in-Replacement : goal.returns-in-Replacement
returns-in-Replacement c m at h = rw (own-replace m at _ _ (ap kind_number c.in-Replacement.is)) (c.judge_replacement.ensures m at h)

pub returns-in-Withdrawal : goal.returns-in-Withdrawal
returns-in-Withdrawal c m at h = rw (own-withdraw m at _ _ (ap kind_number c.in-Withdrawal.is)) (c.judge_withdrawal.ensures at)

pub returns-in_default : goal.returns-in_default
unfolding unless
returns-in_default c m at h = let other = c.in_default in
    rw (own-unknown m at _ c.args.body.now (kinds-differ other.not-Machine) (kinds-differ other.not-Move) (kinds-differ other.not-End)
    (kinds-differ other.not-Replacement) (kinds-differ other.not-Withdrawal))
