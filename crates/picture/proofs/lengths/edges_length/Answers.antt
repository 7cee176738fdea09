use native.Mathlib.Omega.{arith}
use Rattle.picture.proofs.RowLengths.{lines-short, edges-add}
use Rattle.picture.proofs.lengths.edges_length.Goals as goal

pub returns : goal.returns
returns c = let lines = lines-short c.width-line.ensures.short c.size.ensures.short in record {
  length = edges-add _ c.size.ensures.size c.digits.ensures.digits _ c.width-line.ensures.length;
  short = omega (arith, lines, c.digits.ensures.short);
}
