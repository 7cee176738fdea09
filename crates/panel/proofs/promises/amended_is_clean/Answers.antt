use Rattle.panel.proofs.Alike.{amended-same}
use Rattle.panel.proofs.promises.amended_is_clean.Goals as goal

pub returns : goal.returns
returns c = amended-same
