-- A verdict on some causes: they pass, or the first that applies is the refusal, whatever is replied behind them.
-- Assumes nothing.
use mathlib.Core.Path.{◌≡◌, sym, ap, ◌∙◌}
use mathlib.Core.List.{List, ◌++◌}
use mathlib.Core.Bool.{true, false}
use Rattle.std.specs.Prelude.{Result, Ok, Err}
use Rattle.common.specs.Reply.{Reply, given, refused, Fault, clear, unless}
use Rattle.common.proofs.Bools.{false-of-not-true}
use Rattle.common.proofs.Reply.{unless-clear, given-clear, given-not-refused, refused-anyway}
use Rattle.common.proofs.Clear.{clear-each, each-clear, unless-append-decides}
use Rattle.sheet.specs.declared.refusal.Refusal.{Refusal}
use Rattle.sheet.specs.Refusal.{number_of, verdict_says}

module _ (fs : List Fault) {v : Result Unit Refusal} (e : verdict_says v ≡ unless fs (given tt)) where
  pub accepted-clear : v ≡ Ok tt → clear fs ≡ true
  accepted-clear a = each-clear fs (given-clear fs (given tt) (sym e ∙ ap verdict_says a))

  pub accepted-unless : {A : Type 0} (r : Reply A) → v ≡ Ok tt → unless fs r ≡ r
  accepted-unless r a = unless-clear fs r (clear-each fs (accepted-clear a))

  module _ {why : Refusal} (a : v ≡ Err why) where
    pub refused-unless : {A : Type 0} (r : Reply A) → unless fs r ≡ refused (number_of why.cause) why.place
    refused-unless r = refused-anyway fs tt r (sym e ∙ ap verdict_says a)

    -- and whatever causes follow
    pub refused-first : {A : Type 0} (gs : List Fault) (r : Reply A)
        → unless (fs ++ gs) r ≡ refused (number_of why.cause) why.place
    refused-first gs r =
        let some : clear fs ≡ false = false-of-not-true (λ t.
        given-not-refused (sym (unless-clear fs (given (tt {0})) (clear-each fs t)) ∙ refused-unless (given (tt {0})))) in
        unless-append-decides fs gs r some ∙ refused-unless r
