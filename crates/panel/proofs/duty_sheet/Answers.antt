use native.Mathlib.Omega.{arith}
use mathlib.Core.Path.{◌∙◌}
use Rattle.panel.proofs.Replies.{few-counts, accepted-word, refused-word, refused-near}
use Rattle.panel.proofs.duty_sheet.Goals as goal

pub overflow_mul-result : goal.overflow_mul-result
overflow_mul-result c = omega (arith, few-counts _ _ c.read.ensures c.in-Ok.is)

pub overflow_add-result : goal.overflow_add-result
overflow_add-result c = omega (arith, few-counts _ _ c.read.ensures c.in-Ok.is)

pub returns-in-Ok : goal.returns-in-Ok
returns-in-Ok c = accepted-word _ _ c.read.ensures c.in-Ok.is

pub refusal-requires : goal.refusal-requires
refusal-requires c = refused-near _ _ c.read.ensures c.in-Err.is
