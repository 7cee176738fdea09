use Rattle.sheet.proofs.Indexed.{indexes-machines}
use Rattle.plan.proofs.SheetGroups.{machines-fit}
use Rattle.plan.proofs.TargetsNamed.{numbered-needs, needed-by}
use borrow.Author.Rules.{rules}
use Rattle.plan.proofs.grouping.ordered.Goals as goal

pub by_needs-numbers-requires : goal.by_needs-numbers-requires
by_needs-numbers-requires c = (search rules, machines-fit c.requires.0)

pub put_targets-requires : goal.put_targets-requires
put_targets-requires c = let i = c.requires.0.1 in
    let holds = c.needed-next.ensures _ i in
    let own = c.by_needs-numbers.ensures _ holds (indexes-machines i) in
    (numbered-needs i _ _ holds own (search rules) (search rules), c.requires.1)

pub returns : goal.returns
returns c = let needed = c.needed-next in
    let by-needs = c.by_needs-numbers in
    let put = c.put_targets in record {
      numbers = λ m i. by-needs.ensures m (needed.ensures m i) (indexes-machines i);
      targets = λ m i.
          let holds = needed.ensures m i in
          needed-by i _ _ holds (by-needs.ensures m holds (indexes-machines i)) put.ensures;
    }
