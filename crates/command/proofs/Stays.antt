-- Covered after a move: by what is said of the mode that its group comes to. After the command that a covered goal gets, that is
-- so by the laws: covered stays.
-- Assumes nothing.
use Prim.Native.Nat.{ℕ, ◌<◌}
use mathlib.Core.Path.{◌≡◌, sym, ap, ◌∙◌}
use mathlib.Core.Logic.{⊎_elim}
use mathlib.Core.List.{List}
use mathlib.Core.Bool.{Bool, true, false}
use native.Mathlib.Omega.{arith}
use Rattle.common.proofs.Bools.{true-false}
use Rattle.common.proofs.Least.{equal_or_not}
use Rattle.sheet.specs.Model.{Model}
use Rattle.sheet.specs.Valid.{Valid}
use Rattle.plan.specs.Groups.{group_count}
use Rattle.plan.specs.Modes.{size}
use Rattle.plan.specs.Laws.{TableLaws}
use Rattle.plan.specs.Reading.{well_shaped}
use Rattle.command.specs.Goal.{Masks, met, allowed}
use Rattle.command.specs.Ancestors.{upstream_in}
use Rattle.command.specs.Attainable.{groups, present, live_group}
use Rattle.command.specs.Covered.{Attains, Covered}
use Rattle.command.proofs.Facts
use Rattle.command.proofs.Facts.{Sound}
use Rattle.command.proofs.Safe.{SafeLaws}
use Rattle.command.proofs.Sends.{Sends}
use Rattle.command.proofs.Moving
use Rattle.command.proofs.Moving.{Acting, Highest, Moves, MovesBy}

module _ {m : Model} (valid : Valid m) {plan : List ℕ} (shaped : well_shaped m plan ≡ true) {state : List ℕ}
    (sound : Sound m state) {state' : List ℕ} {j p : ℕ} (moves : Moves m plan state state' j p) where
  -- a group that has not moved is as it was
  pub met-elsewhere : (masks : Masks) (a : ℕ) → (a ≡ j → ⊥)
      → met (groups m plan) masks state' a ≡ met (groups m plan) masks state a
  met-elsewhere masks a n =
      Facts.met-allowed m valid plan shaped state' moves.sound masks a
      ∙ ap (allowed m (groups m plan) masks a) (moves.elsewhere a n)
      ∙ sym (Facts.met-allowed m valid plan shaped state sound masks a)

  module _ {counts : ℕ → Bool} {A S : Masks → ℕ → ℕ → Type 0} (masks : Masks) (g : ℕ)
      (covered : Covered m plan counts A S masks state g) (highest : Highest m plan state counts masks g j) where
    unmet-before : (k : ℕ) → (k ≡ j → ⊥) → met (groups m plan) masks state' k ≡ false
        → met (groups m plan) masks state k ≡ false
    unmet-before k n u = sym (met-elsewhere masks k n) ∙ u

    up-of-top : (a : ℕ) → upstream_in m plan counts j a ≡ true → upstream_in m plan counts highest.top a ≡ true
    up-of-top a u =
        ⊎_elim
        (λ e. rw (← e) u)
        (λ w. Facts.upstream-trans m valid plan counts shaped highest.top j a w u)
        highest.way

    -- what the highest unmet group says of those upstream of it
    top-live : (a : ℕ) → upstream_in m plan counts highest.top a ≡ true → live_group m plan state a ≡ true
    top-live a u = covered.upstream-live highest.top a highest.top_below highest.top-unmet u

    top-safe : (a : ℕ) → upstream_in m plan counts highest.top a ≡ true → S masks a (present m plan state a)
    top-safe a u = covered.no-dead-end highest.top a highest.top_below highest.top-unmet u

    -- every case of "unmet now" rests on a group that was unmet: itself, or the highest
    was-live : (k : ℕ) → k < g → met (groups m plan) masks state' k ≡ false → live_group m plan state k ≡ true
    was-live k h u =
        ⊎_elim
        (λ e. rw e (⊎_elim
        (λ w. rw w (covered.itself-live highest.top highest.top_below highest.top-unmet))
        (λ w. top-live j w)
        highest.way))
        (λ n. covered.itself-live k h (unmet-before k n u))
        (equal_or_not k j)

    was-upstream-live : (k a : ℕ) → k < g → met (groups m plan) masks state' k ≡ false
        → upstream_in m plan counts k a ≡ true → live_group m plan state a ≡ true
    was-upstream-live k a h u up =
        ⊎_elim
        (λ e. top-live a (up-of-top a (rw e at up)))
        (λ n. covered.upstream-live k a h (unmet-before k n u) up)
        (equal_or_not k j)

    was-safe : (k a : ℕ) → k < g → met (groups m plan) masks state' k ≡ false
        → upstream_in m plan counts k a ≡ true → S masks a (present m plan state a)
    was-safe k a h u up =
        ⊎_elim
        (λ e. top-safe a (up-of-top a (rw e at up)))
        (λ n. covered.no-dead-end k a h (unmet-before k n u) up)
        (equal_or_not k j)

    -- a group of an unmet one is upstream of the highest, if it is the one that moved
    moved-upstream : (k : ℕ) → k < g → met (groups m plan) masks state' k ≡ false → upstream_in m plan counts k j ≡ true
        → upstream_in m plan counts highest.top j ≡ true
    moved-upstream k h u up =
        let low = Facts.upstream-below m valid plan counts shaped k j up in
        let before = unmet-before k (λ e. omega arith) u in
        ⊎_elim (λ e. absurd (true-false (highest.above-met k (omega arith) h) before)) (λ w. w) highest.way

    -- with what is said then of an unmet group and of one upstream of it
    module _ {A' S' : Masks → ℕ → ℕ → Type 0}
        (attains-there : met (groups m plan) masks state' j ≡ false → A' masks j p)
        (safe-there : upstream_in m plan counts highest.top j ≡ true → S' masks j p)
        (attains-on : (a : ℕ) → (a ≡ j → ⊥) → A masks a (present m plan state a) → A' masks a (present m plan state a))
        (safe-on : (a : ℕ) → (a ≡ j → ⊥) → S masks a (present m plan state a) → S' masks a (present m plan state a)) where
      pub covered-moved : Covered m plan counts A' S' masks state' g
      covered-moved =
          record {
            itself-live = λ k h u. moves.live k (was-live k h u);
            upstream-live = λ k a h u up. moves.live a (was-upstream-live k a h u up);
            attains = λ k h u. ⊎_elim
                (λ e. rw e (rw moves.there (attains-there (rw e at u))))
                (λ n. rw (moves.elsewhere k n) (attains-on k n (covered.attains k h (unmet-before k n u))))
                (equal_or_not k j);
            no-dead-end = λ k a h u up. ⊎_elim
                (λ e. rw e (rw moves.there (safe-there (moved-upstream k h u (rw e at up)))))
                (λ n. rw (moves.elsewhere a n) (safe-on a n (was-safe k a h u up)))
                (equal_or_not a j);
          }

-- after a command, by the laws
module _ {m : Model} {plan : List ℕ} {counts : ℕ → Bool} {Usable : ℕ → Type 0} {longest : ℕ → ℕ} (valid : Valid m)
    (tables : TableLaws m plan counts Usable longest) {S : Masks → ℕ → ℕ → Type 0} (safe : SafeLaws m plan Usable S)
    {state : List ℕ} (sound : Sound m state) {state' : List ℕ} {j v : ℕ} (acting : Acting m plan Usable state j v)
    (moves : MovesBy m plan state state' j v) where
  j-below : j < group_count (groups m plan)
  j-below = Facts.move-below m valid plan tables.shaped j v acting.member

  below' : present m plan state' j < size m (groups m plan) j
  below' = Facts.present-below m valid plan tables.shaped state' moves.sound j

  module _ (masks : Masks) (g : ℕ) (covered : Covered m plan counts (Attains m plan) S masks state g)
      (highest : Highest m plan state counts masks g j) (sends : Sends m plan Usable state masks g j v) where
    safe-there : upstream_in m plan counts highest.top j ≡ true → S masks j (present m plan state' j)
    safe-there w =
        rw moves.there
        (safe.safe-after masks j v _ acting.member acting.usable
        (Facts.present-below m valid plan tables.shaped state sound j) acting.leading
        (covered.no-dead-end highest.top j highest.top_below highest.top-unmet w))

    attains-there : Attains m plan masks j (present m plan state' j)
    attains-there =
        ⊎_elim
        (λ e. rw moves.there (Moving.sends-attains valid tables sound sends highest e))
        (λ w. safe.safe-attains masks j _ j-below below' (safe-there w))
        highest.way

    pub covered-stays : Covered m plan counts (Attains m plan) S masks state' g
    covered-stays =
        covered-moved valid tables.shaped sound moves masks g covered highest
        (λ u. rw moves.there at attains-there) (λ w. rw moves.there at (safe-there w)) (λ a n x. x) (λ a n x. x)
