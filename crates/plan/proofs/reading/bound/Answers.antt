use Rattle.plan.specs.Kept.Outline.{bound_at}
use Rattle.plan.proofs.reading.bound.Goals as goal

pub returns : goal.returns
unfolding bound_at
returns c = rw (c.word_at.ensures.0, c.word_at-2.ensures.0)
