use mathlib.Core.Path.{sym, ◌∙◌}
use borrow.Author.Rules.{rules}
use Rattle.picture.proofs.Candidates.{text-found, first-refused, first-long, nodes-refused, nodes-some}
use Rattle.picture.proofs.Candidates.{gaps-refused, machines-refused, edges-refused, end_refused}
use Rattle.picture.proofs.matching.read_text.Goals as goal

pub returns-then-not-stands : goal.returns-then-not-stands
returns-then-not-stands c = search first-refused

pub read_nodes-requires : goal.read_nodes-requires
read_nodes-requires c = (search first-long, search rules)

pub returns-in_err-nodes : goal.returns-in_err-nodes
returns-in_err-nodes c = rw c.from_residual.ensures (nodes-refused c.in_err-nodes.ensures)

pub returns-in_err-machines : goal.returns-in_err-machines
returns-in_err-machines c =
    rw c.from_residual-in_err-machines.ensures (gaps-refused c.in_ok-nodes.ensures c.in_err-machines.ensures)

pub returns-then-machines-nodes : goal.returns-then-machines-nodes
returns-then-machines-nodes c = machines-refused c.in_ok-nodes.ensures c.in_ok-machines.ensures c.if-machines-nodes.true

pub returns-in_err-end : goal.returns-in_err-end
returns-in_err-end c =
    rw c.from_residual-in_err-end.ensures (edges-refused c.in_ok-nodes.ensures c.in_err-end.ensures)

pub returns-then-not-ends : goal.returns-then-not-ends
returns-then-not-ends c = search (end_refused, c.in_ok-nodes.ensures, c.in_ok-end.ensures)

pub returns : goal.returns
returns c = let nodes = c.in_ok-nodes.ensures in
    let gapless = c.in_ok-machines.ensures in
    text-found (record {
      numbers-size = c.read_nodes.auto.numbers ∙ c.requires.0;
      targets-size = c.read_edges.auto.targets ∙ c.requires.1;
      bits = gapless.bits;
      some = nodes-some nodes gapless;
      no_more = c.if-machines-nodes.false;
      first = sym c.stands.ensures ∙ c.if-not-stands.false;
      nodes = nodes.stand;
      edges = c.in_ok-end.ensures.stand;
      ends = sym c.ends.ensures ∙ c.if-not-ends.false;
    })
