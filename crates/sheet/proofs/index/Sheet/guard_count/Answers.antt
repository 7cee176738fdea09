use borrow.Author.Rules.{rules}
use Rattle.sheet.specs.Index.{guard_count_in}
use Rattle.sheet.proofs.index.Sheet.guard_count.Goals as goal

pub returns : goal.returns
unfolding guard_count_in
returns c = search (rules, c.saturating_sub.ensures, c.word_at.ensures, c.place.ensures)
