use Rattle.sheet.proofs.Passing.{passed-on}
use Rattle.command.proofs.Starting.{lent-near, end_before, start-ready, start-refused}
use Rattle.command.proofs.walking.begin_with.Goals as goal

pub overflow_sub-n : goal.overflow_sub-n
overflow_sub-n c = end_before _ _ _ _ _ c.min-n.ensures c.plan.ensures.reply c.in_ok-plan.was

pub bound-requires : goal.bound-requires
bound-requires c = search lent-near

pub returns : goal.returns
returns c = let p = c.plan.ensures in
    let r = start-ready _ _ c.args.scratch.now _ _ c.min-n.ensures p.reply
    c.in_ok-plan.was p.buffer p.left c.bound.ensures in record { reply = r.0; written = r.1.0; left = r.1.1 }

pub returns-in_err-plan : goal.returns-in_err-plan
returns-in_err-plan c = let p = c.plan.ensures in
    let r = start-refused _ _ c.args.scratch.now _ _ c.min-n.ensures p.reply
    c.in_err-plan.was p.buffer p.left in
    record { reply = rw (passed-on c.from_residual.ensures.1) r.0; written = r.1.0; left = r.1.1 }
