use Rattle.command.proofs.Picked.{method-followed}
use Rattle.command.proofs.promises.method_is_followed.Goals as goal

pub returns : goal.returns
returns c = method-followed
