use Rattle.command.proofs.Tagless.{tagless-same}
use Rattle.command.proofs.promises.tagless_is_the_same.Goals as goal

pub returns : goal.returns
returns c = tagless-same
