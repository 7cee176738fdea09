use Rattle.command.proofs.Looked.{kept-group, kept-start, kept-fits, kept-table}
use Rattle.command.proofs.query.Question.table_of.Goals as goal

pub bounds-self-from : goal.bounds-self-from
bounds-self-from c = kept-start c.requires.3 c.requires.4 c.from.ensures

pub size_of-requires : goal.size_of-requires
size_of-requires c = kept-group c.requires.3 c.requires.4

pub table-requires : goal.table-requires
table-requires c = kept-fits c.requires.3 c.requires.4 c.from.ensures c.size_of.ensures.0

pub returns : goal.returns
returns c m state zeros kept h = kept-table kept h c.from.ensures c.size_of.ensures.0 c.table.ensures
