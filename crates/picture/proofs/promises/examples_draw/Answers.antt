use Rattle.picture.specs.Examples.{examples-draw}
use Rattle.picture.proofs.promises.examples_draw.Goals as goal

pub returns : goal.returns
returns c = examples-draw
