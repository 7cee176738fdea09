use mathlib.Core.Path.{◌≡◌, ap, sym, ◌∙◌}
use Rattle.common.specs.Bits.{bit}
use Rattle.sets.proofs.Laws.{less-from}
use Rattle.sets.proofs.Members.{least-member}
use Rattle.search.proofs.Gather.{gathers-none, gathers-next, gathers-end}
use Rattle.picture.proofs.turns.machines_of.Goals as goal

pub loop-g-init : goal.loop-g-init
loop-g-init c = let e : c.into_iter-g-iterator.result.rest ≡ c.args.groups = search in
    rw e (search gathers-none, λ g t. t)

pub bounds-members-g : goal.bounds-members-g
bounds-members-g c = let t = c.in-Some.ensures.steps in
    let member = least-member c.loop-g.invariant.0.fits t.some in
    c.requires _ (c.loop-g.invariant.1 _ (ap (bit _) t.first ∙ member))

pub loop-g-preserved : goal.loop-g-preserved
loop-g-preserved c = let t = c.in-Some.ensures.steps in (
  search (gathers-next, t),
  λ g b. c.loop-g.invariant.1 g (less-from _ _ g (ap (λ s. bit s g) (sym t.others) ∙ b)),
)

pub returns : goal.returns
returns c = gathers-end _ c.loop-g.invariant.0 c.in-None.ensures.steps.0
