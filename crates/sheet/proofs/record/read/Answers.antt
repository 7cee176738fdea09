use mathlib.Core.Path.{◌∙◌}
use Rattle.sheet.proofs.Records.{no_header, header-past, body-cut, body-in}
use Rattle.sheet.proofs.record.read.Goals as goal

pub returns-then-s-lt4 : goal.returns-then-s-lt4
returns-then-s-lt4 c = search no_header

pub returns-then-last-at : goal.returns-then-last-at
returns-then-last-at c = search header-past

pub returns-then-last-at-2 : goal.returns-then-last-at-2
returns-then-last-at-2 c = let n = c.from-len.ensures ∙ c.two_bytes.ensures in search (body-cut, n)

pub returns : goal.returns
returns c = let n = c.from-len.ensures ∙ c.two_bytes.ensures in search (body-in, n)
