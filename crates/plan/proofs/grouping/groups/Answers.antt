use Rattle.sheet.proofs.Indexed.{indexes-machines}
use Rattle.plan.proofs.SheetGroups.{machines-fit}
use borrow.Author.Rules.{rules}
use Rattle.plan.proofs.grouping.groups.Goals as goal

pub by_needs-requires : goal.by_needs-requires
by_needs-requires c = (search rules, search machines-fit)

pub returns : goal.returns
returns c m i = c.by_needs.ensures m (c.needed-next.ensures m i) (indexes-machines i)
