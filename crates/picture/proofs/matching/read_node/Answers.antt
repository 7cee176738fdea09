use Rattle.picture.proofs.NodeLabel.{node-quote, node-found}
use Rattle.picture.proofs.matching.read_node.Goals as goal

pub read_label-requires : goal.read_label-requires
read_label-requires c = node-quote c.args.text.now c.args.at _ c.requires.2 c.width.ensures.length

pub returns : goal.returns
returns c = node-found c.args.text.now c.args.at _ c.requires.2 c.width.ensures.length
    c.read_label.result c.requires.0 c.read_label.ensures
