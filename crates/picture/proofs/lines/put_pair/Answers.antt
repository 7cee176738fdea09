use mathlib.Core.Path.{refl}
use Rattle.picture.proofs.Pieces.{pair-written}
use Rattle.picture.proofs.lines.put_pair.Goals as goal

pub returns : goal.returns
returns c = record {
  end = refl;
  written = pair-written c.args.out.now _ _ _ c.requires.0;
}
