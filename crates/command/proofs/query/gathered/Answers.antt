use Rattle.command.proofs.Gathering.{gathered}
use Rattle.command.proofs.query.gathered.Goals as goal

pub returns : goal.returns
returns c = gathered _ _ _ _ c.requires c.put_bytes.ensures c.put_bytes-2.ensures c.put_bytes-3.ensures c.put_bytes-4.ensures
