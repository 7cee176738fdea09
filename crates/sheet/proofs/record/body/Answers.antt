use native.Mathlib.Omega.{arith}
use Rattle.sheet.proofs.Records.{whole-within, body-whole, body-none}
use Rattle.sheet.proofs.record.body.Goals as goal

pub returns-in_default : goal.returns-in_default
returns-in_default c = search body-none

pub slice_bounds-result-end-2 : goal.slice_bounds-result-end-2
slice_bounds-result-end-2 c = search whole-within

pub overflow_add-end : goal.overflow_add-end
overflow_add-end c = omega (arith, slice_bounds-result-end-2 c)

pub returns : goal.returns
returns c = search body-whole
