use Rattle.picture.proofs.RowLengths.{pairs-add}
use borrow.Author.Rules.{rules}
use Rattle.picture.proofs.lengths.pairs_length.Goals as goal

pub returns : goal.returns
returns c = record {
  length = pairs-add _ c.size.ensures.size;
  short = search rules;
}
