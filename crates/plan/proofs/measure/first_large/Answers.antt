use mathlib.Core.Path.{◌≡◌}
use lib.Dec.{ltb}
use lib.ListN.{take}
use Rattle.std.proofs.Common.{rules, tests}
use Rattle.std.proofs.lemmas.Iterator.{YieldsList-from_slice}
use Rattle.std.proofs.lemmas.Iterator.Search.{position_from_yields_List}
use Rattle.std.specs.List.{position}
use Rattle.plan.proofs.GroupLoops.{large-position}
use Rattle.plan.proofs.measure.first_large.Goals as goal

pub returns : goal.returns
returns c =
    let firsts = take c.args.count c.args.sizes.now in
    let e : c.position.result ≡ position (ltb 64) firsts
    = position_from_yields_List _ _ _ _ c.position.ensures.ran (YieldsList-from_slice firsts cc) (λ x b q k. search (rules, tests)) in
    let r = large-position c.args.sizes.now c.args.count (search rules) e in
    record { first = r.0; inside = r.1 }
