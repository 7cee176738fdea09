-- Whether all needs of a move hold, whether a move answers a command, and the first move that does.
-- Assumes nothing.
use Prim.Native.Nat.{ℕ, ◌+◌, ◌≤◌, ◌<◌}
use mathlib.Core.Path.{◌≡◌, refl, sym, ◌∙◌}
use mathlib.Core.List.{List}
use mathlib.Core.Bool.{Bool, true, false, ◌&&◌, and-true}
use native.Mathlib.Omega.{arith}
use borrow.Author.Count.{below_more}
use borrow.Author.Tests.{eq-eqb, ne_eqb}
use lib.Dec.{eqb}
use lib.ListN.{length, get_or}
use Rattle.common.specs.Lists.{all}
use Rattle.common.specs.Bits.{bit}
use Rattle.common.proofs.Bools.{and_intro, and-false-left, and-false-right, false-of-not-true}
use Rattle.common.proofs.Lists.{all_append}
use Rattle.common.proofs.Search.{find-up_to-is, find-up_to-none}
use Rattle.std.specs.Borrow.{Bor}
use Rattle.std.proofs.Common.{Some, None}
use Rattle.sheet.specs.declared.guard.Guards.{Guards}
use Rattle.sheet.specs.Kept.Guards.{GivesGuard}
use Rattle.sheet.specs.Record.{byte, body_at}
use Rattle.sheet.specs.Model.{Guard, Model, move_of}
use Rattle.sheet.specs.Kept.Indexed.{Listed}
use Rattle.sheet.proofs.Indexed.{listed-present, listed-move}
use Rattle.sheet.proofs.GuardLoop.{GuardsUpto, guards-none, guards-next, guard-fails, guards-end}
use Rattle.command.specs.State.{mode_of, tag_of}
use Rattle.command.specs.Apply.{acts, acting_move}
use Rattle.command.proofs.Acts.{acts-answers}

-- a need holds in a state
abbrev pub holds : List ℕ → Guard → Bool
holds state g = bit g.mask (mode_of state g.machine)

-- `ready`: need by need

pub record Holding (state : List ℕ) (gs : List Guard) : Type 0 where
  pub each : all (holds state) gs ≡ true

module _ {state : List ℕ} where
  pub holding-none : {g start : Guards} {lent : Bor (List ℕ)} → g ≡ start → start.body ≡ lent → start.at ≡ 4
      → GuardsUpto (Holding state) lent.now g
  unfolding all
  holding-none e same first = guards-none e same first (record { each = refl })

  module _ {body : List ℕ} {g g' : Guards} (u : GuardsUpto (Holding state) body g) where
    module _ {mode : ℕ} {b : Bool} {x : _} (s : GivesGuard g (Some x) g') (e : mode ≡ mode_of state x.machine.0)
        (r : b ≡ bit x.mask mode) where
      here : b ≡ bit x.mask (mode_of state x.machine.0)
      here = rw (← e) r

      pub holding-next : b ≡ true → GuardsUpto (Holding state) body g'
      unfolding all
      holding-next t =
          guards-next u s (λ gs p. record { each = rw (all_append, and-true) (and_intro p.each (sym here ∙ t)) })

      pub holding-fails : b ≡ false → false ≡ all (holds state) (move_of body).guards
      holding-fails f = guard-fails u s (holds state) (sym here ∙ f)

    pub holding-end : GivesGuard g None g' → true ≡ all (holds state) (move_of body).guards
    holding-end s = sym (guards-end u s).each

-- `answers`: test by test

abbrev pub answering : List ℕ → List ℕ → ℕ → ℕ → ℕ → Bool
answering state body machine mode command =
    eqb (move_of body).machine machine && eqb (move_of body).from mode && eqb (move_of body).command command
    && all (holds state) (move_of body).guards

module _ (state body : List ℕ) (machine mode command : ℕ) where
  pub other-machine : (byte body 0 ≡ machine → ⊥) → false ≡ answering state body machine mode command
  unfolding move_of
  other-machine n = rw (ne_eqb (byte body 0) machine n)

  pub other-mode : (byte body 1 ≡ mode → ⊥) → false ≡ answering state body machine mode command
  unfolding move_of
  other-mode n =
      let here : Bool = eqb (byte body 0) machine in
      sym (and-false-left _ (and-false-left _ (and-false-right here (ne_eqb _ _ n))))

  pub other-command : (byte body 3 ≡ command → ⊥) → false ≡ answering state body machine mode command
  unfolding move_of
  other-command n =
      let here : Bool = eqb (byte body 0) machine && eqb (byte body 1) mode in
      sym (and-false-left _ (and-false-right here (ne_eqb _ _ n)))

  pub needs-left : {r : Bool} → byte body 0 ≡ machine → byte body 1 ≡ mode → byte body 3 ≡ command → r ≡ all (holds state) (move_of body).guards
      → r ≡ answering state body machine mode command
  unfolding move_of
  needs-left a b c e =
      rw (eq-eqb (byte body 0) machine a, eq-eqb (byte body 1) mode b, eq-eqb (byte body 3) command c) e

-- `acting`: no move before move v answers

pub record Unanswered (m : Model) (state : List ℕ) (machine command v : ℕ) : Type 0 where
  pub none : (j : ℕ) → j < v → acts m state machine command j ≡ false

-- a tagged machine obeys no command
pub unanswered-tagged : (m : Model) (state : List ℕ) (machine command : ℕ) {tag : ℕ} → tag ≡ tag_of state machine
    → (tag ≡ 0 → ⊥) → 255 ≡ acting_move m state machine command
unfolding acting_move
unanswered-tagged m state machine command e n =
    sym
    (find-up_to-none (acts m state machine command) 255 (λ j l.
    false-of-not-true (λ t. n (e ∙ (acts-answers m state machine command j l t).no-tag))))

module _ {file places state : List ℕ} {machine command : ℕ} {m : Model} (l : Listed m file places) where
  module _ {mode v : ℕ} {body : List ℕ} {r : Bool} (free : tag_of state machine ≡ 0) (e : mode ≡ mode_of state machine)
      (u : Unanswered m state machine command v) (h : v < length places)
      (b : body ≡ body_at file (get_or places v 0)) (a : r ≡ answering state body machine mode command) where
    acts-here : acts m state machine command v ≡ r
    unfolding acts
    acts-here = sym (rw (listed-move l h b, e) at a ∙ rw free (sym (and-true _)))

    pub unanswered-next : r ≡ false → Unanswered m state machine command (v + 1)
    unanswered-next f =
        record { none = below_more (λ j. acts m state machine command j ≡ false) v u.none (acts-here ∙ f) }

    pub answered-here : r ≡ true → v ≡ acting_move m state machine command
    unfolding acting_move
    answered-here t =
        sym (find-up_to-is (acts m state machine command) 255 v (listed-present l h) (acts-here ∙ t) u.none)

  pub unanswered-end : {v : ℕ} → Unanswered m state machine command v → length places ≤ v
      → 255 ≡ acting_move m state machine command
  unfolding acting_move
  unanswered-end u h =
      sym (find-up_to-none (acts m state machine command) 255 (λ j n. u.none j (omega (arith, l.one_each))))
