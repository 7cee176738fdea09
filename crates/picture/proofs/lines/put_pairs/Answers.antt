use mathlib.Core.Path.{◌≡◌}
use Rattle.picture.proofs.SetRows.{pairs_start, pairs-room, pairs-more, pairs_end}
use borrow.Author.Rules.{rules}
use Rattle.picture.proofs.lines.put_pairs.Goals as goal

pub loop-k-init : goal.loop-k-init
loop-k-init c = let e : c.into_iter-k-iterator.result.rest ≡ c.args.targets = search in rw e (search pairs_start)

pub put_pair-end-requires : goal.put_pair-end-requires
put_pair-end-requires c = let t = c.in-Some.ensures.steps in (search (pairs-room, t), search rules, t.below)

pub loop-k-preserved : goal.loop-k-preserved
loop-k-preserved c = search (pairs-more, c.in-Some.ensures)

pub returns : goal.returns
returns c = let r = pairs_end _ _ _ _ c.loop-k.invariant c.in-None.ensures.steps.0 in record { end = r.0; written = r.1 }
