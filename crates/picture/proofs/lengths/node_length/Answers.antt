use Rattle.picture.proofs.RowLengths.{node-adds}
use borrow.Author.Rules.{rules}
use Rattle.picture.proofs.lengths.node_length.Goals as goal

pub returns : goal.returns
returns c = let size = c.size.ensures.size in record {
  length = node-adds _ size c.digits.ensures.digits _ c.width.ensures.length;
  short = search rules;
}
