use Rattle.clean.proofs.Writing.{body-within, body-there}
use Rattle.clean.proofs.cleaning.body_of.Goals as goal

pub slice_bounds-result-end : goal.slice_bounds-result-end
slice_bounds-result-end c = search body-within

pub returns : goal.returns
returns c = search body-there
