use Rattle.picture.proofs.SetSizes.{digits-counted}
use borrow.Author.Rules.{rules}
use Rattle.picture.proofs.lengths.digits.Goals as goal

pub returns : goal.returns
returns c = record {
  digits = search digits-counted;
  short = search rules;
}
