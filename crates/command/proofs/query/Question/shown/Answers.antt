use mathlib.Core.Path.{refl, sym, ap, ◌∙◌}
use Rattle.command.specs.Kept.Question.{numbers_in}
use Rattle.command.proofs.Placing.{kept-placed, kept-shows}
use Rattle.command.proofs.query.Question.shown.Goals as goal

pub returns : goal.returns
returns c = (
  refl,
  λ m state kept same. rw c.digits.ensures.2 (kept-shows kept
      (kept-placed kept (c.digits.ensures.0 ∙ ap (numbers_in _) (sym same))).numbered c.digits.ensures.1 c.sizes.ensures),
)
