use Rattle.sets.proofs.Members.{less-shorter}
use Rattle.sets.proofs.AscendingDoubleEndedIterator.next_back.Goals as goal

pub returns-clause-goes : goal.returns-clause-goes
returns-clause-goes c = record {
  on = λ _. (tt, tt, rw c.without-self.ensures (less-shorter _ c.highest-i.ensures.0 c.highest-i.ensures.1));
  keeps = tt;
  rests = λ _. tt;
}
