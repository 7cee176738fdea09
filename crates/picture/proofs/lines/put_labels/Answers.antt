use mathlib.Core.Path.{◌≡◌}
use Rattle.picture.proofs.SetRows.{labels-start, labels-room, labels-more, labels-end}
use Rattle.picture.proofs.lines.put_labels.Goals as goal

pub loop-i-init : goal.loop-i-init
loop-i-init c = let e : c.into_iter-i-iterator.result.rest ≡ c.args.machines = search in rw e (search labels-start)

pub put_number-end-requires : goal.put_number-end-requires
put_number-end-requires c = search (labels-room, c.in-Some.ensures)

pub loop-i-preserved : goal.loop-i-preserved
loop-i-preserved c = search (labels-more, c.in-Some.ensures)

pub returns : goal.returns
returns c = let r = labels-end _ _ _ _ c.loop-i.invariant c.in-None.ensures.steps.0 in record { end = r.0; written = r.1 }
