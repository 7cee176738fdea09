-- What `?` passes on: the refusal itself.
-- Assumes nothing.
use mathlib.Core.Path.{◌≡◌, ap, ◌∙◌}
use Rattle.std.specs.Prelude.{Result, Err}
use Rattle.std.specs.Result.{IsErrAnd}
use Rattle.std.proofs.lemmas.Result.{err_from_is_err_and}

pub passed-on : {A E : Type 0} {r : Result A E} {f : E} → IsErrAnd r (λ y. y ≡ f) → r ≡ Err f
passed-on {r} h = let e = err_from_is_err_and r h in e.1 ∙ ap Err e.2
