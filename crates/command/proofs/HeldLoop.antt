-- The loop over a move's guards: the groups on which one fails.
-- Assumes nothing.
use Prim.Native.Nat.{ℕ, ◌<◌}
use mathlib.Core.Path.{◌≡◌, ◌∙◌}
use mathlib.Core.List.{List}
use mathlib.Core.Bool.{Bool, not, ◌&&◌, ◌||◌, and_comm}
use native.Mathlib.Omega.{arith}
use lib.Dec.{eqb}
use lib.ListN.{length}
use Rattle.common.specs.Bits.{bit}
use Rattle.common.specs.Lists.{any}
use Rattle.common.proofs.Lists.{any-cong}
use Rattle.common.proofs.Snoc.{any_snoc}
use Rattle.sets.proofs.Laws.{bit-none}
use Rattle.std.specs.Borrow.{Bor}
use Rattle.std.proofs.Common.{Some, None}
use Rattle.sheet.specs.declared.guard.Guards.{Guards}
use Rattle.sheet.specs.Kept.Guards.{GivesGuard}
use Rattle.sheet.specs.Model.{Guard, Model, move_of}
use Rattle.sheet.specs.Valid.{ValidMove}
use Rattle.sheet.proofs.GuardLoop.{GuardsUpto, guards-none, guard-valid, guards-next, guards-end}
use Rattle.plan.specs.Groups.{group_of}
use Rattle.plan.specs.Reading.{groups_in}
use Rattle.command.specs.State.{mode_of}
use Rattle.command.specs.Kept.Question.{Placed, HeldUp}
use Rattle.command.proofs.Placing.{placed-number, placed-numbers}

-- a guard is on group a, and fails
abbrev fails_on : List ℕ → List ℕ → ℕ → Guard → Bool
fails_on state numbers a g = not (bit g.mask (mode_of state g.machine)) && eqb (group_of numbers g.machine) a

-- r holds the groups on which one of some guards fails
pub record Fails (state numbers : List ℕ) (r : ℕ) (gs : List Guard) : Type 0 where
  pub bits : (a : ℕ) → bit r a ≡ any (fails_on state numbers a) gs

-- the group that a guard is on is small
pub held-group : {m : Model} {plan state numbers : List ℕ} (i : ℕ) {own w : ℕ}
    → Placed m plan state numbers → own ≡ group_of numbers i → w ≡ own → w < 64
held-group i p e f = omega (arith, placed-number p i)

module _ {state numbers : List ℕ} where
  pub held_none : {g start : Guards} {lent : Bor (List ℕ)} → g ≡ start → start.body ≡ lent → start.at ≡ 4
      → GuardsUpto (Fails state numbers 0) lent.now g
  unfolding any
  held_none e same first = guards-none e same first (record { bits = λ a. bit-none a })

  module _ {body : List ℕ} {r : ℕ} {g g' : Guards} (u : GuardsUpto (Fails state numbers r) body g) where
    module _ {x : _} (s : GivesGuard g (Some x) g') where
      -- the machine of the guard that is given
      pub held-there : {m : Model} {plan : List ℕ} → Placed m plan state numbers → ValidMove m (move_of body)
          → x.machine.0 < length numbers
      held-there p v = omega (arith, (guard-valid u s v).present, placed-numbers p)

      pub held_next : {own w mode t : ℕ} {b : Bool} → own ≡ group_of numbers x.machine.0 → w ≡ own
          → mode ≡ mode_of state x.machine.0 → b ≡ bit x.mask mode
          → ((a : ℕ) → bit t a ≡ (bit r a || (not b && eqb w a))) → GuardsUpto (Fails state numbers t) body g'
      held_next e f k h bits =
          guards-next u s (λ gs p. record { bits = λ a. bits a ∙ rw (p.bits a, f, e, h, k, any_snoc) })

    pub held-end : GivesGuard g None g' → (m : Model) (plan : List ℕ) → Placed m plan state numbers
        → ValidMove m (move_of body) → HeldUp (groups_in m plan) state (move_of body) r
    held-end s m plan p v =
        record {
          bits = λ a h.
              (guards-end u s).bits a
              ∙ any-cong _ _ (move_of body).guards (λ g _.
              rw p.numbered
              (and_comm (not (bit g.mask (mode_of state g.machine))) (eqb (group_of (groups_in m plan) g.machine) a)));
        }
