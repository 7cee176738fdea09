use borrow.Author.Rules.{rules}
use Rattle.plan.specs.Needs.{need_graph}
use Rattle.plan.specs.Kept.MachineSets.{ReachSets, MutualSets, OutsideSets}
use Rattle.plan.proofs.SheetGroups.{groups-kept, groups-taken}
use Rattle.plan.proofs.grouping.by_needs.Goals as goal
use Rattle.plan.proofs.grouping.by_needs.Goals.{After-number}

reached : (c : After-number) → ReachSets c.args.next.now c.args.n c.put_each.new.r
reached c = record { each = λ i h. let e = c.put_each.ensures i h in search rules }

both : (c : After-number) → MutualSets c.put_each.new.r c.args.n c.put_each-2.new.r
both c = record { each = λ i h. let e = c.put_each-2.ensures i h in search rules }

needs : (c : After-number) → OutsideSets c.args.next.now c.put_each-2.new.r c.args.n c.put_each-3.new.r
needs c = record { each = λ i h. let e = c.put_each-3.ensures i h in search rules }

pub returns : goal.returns
returns c m k same = groups-taken m same _ (c.number.ensures (need_graph m) (groups-kept m same k (reached c) (both c) (needs c)))
