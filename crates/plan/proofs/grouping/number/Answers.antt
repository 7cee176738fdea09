use mathlib.Core.Path.{refl, ◌∙◌}
use Rattle.plan.proofs.Marking.{marks-none, marks-next, marks-stop, marks-end}
use Rattle.plan.proofs.grouping.number.Goals as goal

pub loop-k-init : goal.loop-k-init
loop-k-init c = (refl, λ g s. marks-none g _)

pub returns-then-group-eq0 : goal.returns-then-group-eq0
returns-then-group-eq0 c g s = let m = c.loop-k.invariant.1 g s in search marks-stop

pub loop-k-preserved : goal.loop-k-preserved
loop-k-preserved c = let l = c.loop-k.invariant in
    (c.mark.auto.row ∙ l.0, λ g s. let m = l.1 g s in search marks-next)

pub returns : goal.returns
returns c g s = let m = c.loop-k.invariant.1 g s in search marks-end
