use mathlib.Core.Path.{◌≡◌}
use lib.ListN.{length}
use Rattle.picture.proofs.ReadySets.{number_fits}
use Rattle.picture.proofs.TextRows.{text-rows}
use borrow.Author.Rules.{rules}
use Rattle.picture.proofs.graph.write_text.Goals as goal

pub members-machines-requires : goal.members-machines-requires
members-machines-requires c = (c.requires.few-machines, number_fits c.requires)

pub returns : goal.returns
returns c = let long : length c.members-machines.result ≡ 32 = search rules in record {
  reply = rw (text-rows c.requires c.members-machines.ensures long) c.write_rows.ensures.reply;
  written = rw (text-rows c.requires c.members-machines.ensures long) c.write_rows.ensures.written;
}
