use Rattle.panel.proofs.Apart.{all_apart}
use Rattle.panel.proofs.promises.words_come_apart.Goals as goal

pub returns : goal.returns
returns c = all_apart
