use mathlib.Core.Path.{◌≡◌, sym, ap, ◌∙◌}
use Rattle.common.specs.Reply.{length_of, output_after}
use Rattle.sheet.specs.Model.{Model, machine_count}
use Rattle.plan.specs.Kept.Sizes.{CountsOf}
use Rattle.sheet.specs.Refusal.{verdict_says}
use Rattle.sheet.proofs.Passing.{passed-on}
use Rattle.joining.specs.Join.{Goals}
use Rattle.joining.specs.Kept.Lent.{Splits}
use Rattle.joining.proofs.Sharing.{refusal-leaves}
use Rattle.joining.proofs.JoinReply.{each_reply, whole-holds, cut-refused, each-short, each_shared, each-refused}
use Rattle.joining.proofs.joining.join_goals.Goals as goal
use Rattle.joining.proofs.joining.join_goals.Goals.{After-check_each}

-- the goals of the slice, and what the test of each says
held : (c : After-check_each) → (each : Goals) × Splits c.args.goals.now each
held c = whole-holds _ c.whole.ensures c.if-not-whole.false

said : (c : After-check_each) (m : Model) → CountsOf m c.args.modes.now
    → c.args.n ≡ machine_count m → verdict_says c.check_each.result ≡ each_reply m (held c).0
said c m q e = c.check_each.ensures m (held c).0 q e (held c).1

pub returns-then-not-whole : goal.returns-then-not-whole
returns-then-not-whole c = record {
  reply = λ m q e. rw c.at.ensures (ap length_of (cut-refused _ c.whole.ensures m _ (c.if-not-whole.true)));
  written = λ m q e. refusal-leaves _ (cut-refused _ c.whole.ensures m _ (c.if-not-whole.true));
}

pub write-requires : goal.write-requires
write-requires c = let pre = c.requires in
    let m = pre.0.0 in
    let accepted = ap verdict_says (sym c.in_ok-check_each.was) ∙ said (goal.at.write-requires c).After-check_each m pre.0.1 pre.0.2 in
    ((held (goal.at.write-requires c).After-check_each).0, each-short m _ (held (goal.at.write-requires c).After-check_each).1 accepted pre.0.2 pre.1)

pub returns : goal.returns
returns c = let each = (held (goal.at.returns c).After-check_each).0 in
    let holds = (held (goal.at.returns c).After-check_each).1 in
    let few = c.requires.1 in
    let told = ap verdict_says (sym c.in_ok-check_each.was) in record {
      reply = λ m q e.
          let accepted = told ∙ said (goal.at.returns c).After-check_each m q e in
          c.write.ensures.reply each (each-short m _ holds accepted e few)
          ∙ sym (ap length_of (each_shared m _ holds _ accepted));
      written = λ m q e.
          let accepted = told ∙ said (goal.at.returns c).After-check_each m q e in
          c.write.ensures.written each (each-short m _ holds accepted e few)
          ∙ sym (ap (λ r. output_after r c.args.out.now) (each_shared m _ holds _ accepted));
    }

pub returns-in_err-check_each : goal.returns-in_err-check_each
returns-in_err-check_each c = let holds = (held (goal.at.returns-in_err-check_each c).After-check_each).1 in
    let told = ap verdict_says (sym c.in_err-check_each.was) in record {
      reply = λ m q e. rw (passed-on c.from_residual.ensures.1) (ap length_of (each-refused m _ holds _ (told ∙ said (goal.at.returns-in_err-check_each c).After-check_each m q e)));
      written = λ m q e. refusal-leaves _ (each-refused m _ holds _ (told ∙ said (goal.at.returns-in_err-check_each c).After-check_each m q e));
    }
