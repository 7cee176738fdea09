use Rattle.command.proofs.Before.{fewer-upstream}
use Rattle.command.proofs.promises.upstream_is_fewer.Goals as goal

pub returns : goal.returns
returns c = fewer-upstream
