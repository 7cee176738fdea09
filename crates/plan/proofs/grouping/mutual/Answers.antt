use mathlib.Core.Path.{ap, ◌∙◌}
use Rattle.plan.proofs.SetLoops.{meets-none, meets-next, meets-end}
use Rattle.plan.proofs.grouping.mutual.Goals as goal

pub loop-j-init : goal.loop-j-init
loop-j-init c =
    let e = ap (λ it. it.rest) c.into_iter-j-iterator.ensures.into_iter_gives ∙ c.each-j-items.ensures in
    rw e (meets-none _ _ (c.type_inv.reach c.from-i.result).fits)

pub loop-j-preserved : goal.loop-j-preserved
loop-j-preserved c = search (meets-next, c.in-Some.ensures)

pub returns : goal.returns
returns c = rw (← c.from-i.ensures) (meets-end _ _ c.loop-j.invariant c.in-None.ensures.steps.0)
