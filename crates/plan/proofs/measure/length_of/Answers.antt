use Prim.Native.Nat.{◌≤◌}
use mathlib.Core.Path.{◌∙◌}
use native.Mathlib.Nat.{le_refl}
use native.Mathlib.Omega.{arith}
use Rattle.plan.proofs.GroupLoops.{few-groups}
use Rattle.plan.proofs.LengthLaws.{length-large, length-many, length-fits}
use Rattle.plan.proofs.measure.length_of.Goals as goal

pub first_large-requires : goal.first_large-requires
first_large-requires c = let f : c.count-groups.result ≤ 32 = search few-groups in
    omega (arith, c.sizes-n.type_inv)

pub overflow_cast-large : goal.overflow_cast-large
overflow_cast-large c = let f : c.count-groups.result ≤ 32 = search few-groups in omega arith

pub returns-in-Some : goal.returns-in-Some
returns-in-Some c = λ m all counts.
    let are = c.sizes-n.ensures m counts in
    let at = c.from.ensures ∙ c.smallest-m.ensures in
    rw c.at.ensures (search (length-large m, few-groups, c.in-Some.ensures))

pub entries-cells-requires : goal.entries-cells-requires
entries-cells-requires c = let f : c.count-groups.result ≤ 32 = search few-groups in
    omega (arith, c.sizes-n.type_inv)

pub returns-then-cells-gt-ENTRIES : goal.returns-then-cells-gt-ENTRIES
returns-then-cells-gt-ENTRIES c = λ m all counts.
    let are = c.sizes-n.ensures m counts in
    rw c.at-then-cells-gt-ENTRIES.ensures (search (length-many m, few-groups, c.in_default.ensures, le_refl))

pub overflow_mul-result : goal.overflow_mul-result
overflow_mul-result c = let f : c.count-groups.result ≤ 32 = search few-groups in
    omega arith

pub overflow_add-result-2 : goal.overflow_add-result-2
overflow_add-result-2 c = let f : c.count-groups.result ≤ 32 = search few-groups in
    omega arith

pub overflow_add-result-3 : goal.overflow_add-result-3
overflow_add-result-3 c = let f : c.count-groups.result ≤ 32 = search few-groups in
    omega arith

pub returns : goal.returns
returns c = λ m all counts.
    let are = c.sizes-n.ensures m counts in
    search (length-fits m, few-groups, c.in_default.ensures, le_refl)
