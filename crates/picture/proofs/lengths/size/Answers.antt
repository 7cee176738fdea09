use Rattle.picture.proofs.SetSizes.{size_is, size_small}
use Rattle.picture.proofs.lengths.size.Goals as goal

pub returns : goal.returns
returns c = record {
  size = search size_is;
  short = search size_small;
}
