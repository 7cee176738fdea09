use Rattle.plan.proofs.Planned.{lawful}
use Rattle.plan.proofs.promises.plan_is_lawful.Goals as goal

pub returns : goal.returns
returns c = lawful
