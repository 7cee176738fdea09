use mathlib.Core.Path.{refl}
use Rattle.common.specs.Lists.{pad}
use Rattle.sheet.specs.Index.{index_of}
use Rattle.sheet.proofs.index.Sheet.empty.Goals as goal

pub returns : goal.returns
unfolding index_of pad
returns c = refl
