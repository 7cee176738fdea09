use Rattle.sets.proofs.Members.{taken-below, taken-shorter, taken-rest}
use Rattle.sets.proofs.AscendingIterator.next.Goals as goal

pub returns-clause-steps : goal.returns-clause-steps
returns-clause-steps c = record {
  some = search;
  below = search taken-below;
  first = search;
  others = search taken-rest;
}

pub returns-clause-goes : goal.returns-clause-goes
returns-clause-goes c = record {
  on = λ _. (tt, tt, search (taken-shorter, taken-rest));
  keeps = tt;
  rests = λ _. tt;
}
