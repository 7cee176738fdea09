-- The loop over a move's guards which puts f of each guard's machine into a set.
-- Assumes nothing.
use Prim.Native.Nat.{ℕ, ◌<◌}
use mathlib.Core.Path.{◌≡◌, ◌∙◌}
use mathlib.Core.List.{List}
use mathlib.Core.Bool.{◌||◌}
use lib.Dec.{eqb}
use Rattle.common.specs.Bits.{bit}
use Rattle.common.specs.Lists.{any}
use Rattle.common.proofs.Snoc.{any_snoc}
use Rattle.sets.proofs.Laws.{bit-none}
use Rattle.std.specs.Borrow.{Bor}
use Rattle.std.proofs.Common.{Some}
use Rattle.sheet.specs.declared.guard.Guards.{Guards}
use Rattle.sheet.specs.Kept.Guards.{GivesGuard}
use Rattle.sheet.specs.Model.{Guard}
use Rattle.sheet.proofs.GuardLoop.{GuardsUpto, guards-none, guards-next}

-- a set holds f of the machine of each of some guards
pub record Puts (f : ℕ → ℕ) (r : ℕ) (gs : List Guard) : Type 0 where
  pub bits : (j : ℕ) → j < 64 → bit r j ≡ any (λ g. eqb (f g.machine) j) gs

module _ (f : ℕ → ℕ) where
  pub put-none : {g start : Guards} {lent : Bor (List ℕ)} → g ≡ start → start.body ≡ lent → start.at ≡ 4
      → GuardsUpto (Puts f 0) lent.now g
  unfolding any
  put-none e same first = guards-none e same first (record { bits = λ j h. bit-none j })

  pub put_next : {body : List ℕ} {r w t : ℕ} {g g' : Guards} {x : _} → GuardsUpto (Puts f r) body g → GivesGuard g (Some x) g'
      → w ≡ f x.machine.0 → ((j : ℕ) → j < 64 → bit t j ≡ (bit r j || eqb w j)) → GuardsUpto (Puts f t) body g'
  put_next u s e bits = guards-next u s (λ gs p. record { bits = λ j l. bits j l ∙ rw (p.bits j l, e, any_snoc) })
