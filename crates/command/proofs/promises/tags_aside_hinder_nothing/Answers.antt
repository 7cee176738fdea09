use Rattle.command.proofs.TagsAside.{tags-aside}
use Rattle.command.proofs.promises.tags_aside_hinder_nothing.Goals as goal

pub returns : goal.returns
returns c = tags-aside
