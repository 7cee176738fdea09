-- An entry that is fit, a move that is ready or waits: the tests say what the words say.
-- Assumes nothing.
use Prim.Native.Nat.{ℕ}
use mathlib.Core.Path.{◌≡◌}
use mathlib.Core.List.{List}
use mathlib.Core.Bool.{Bool, true, false, ◌||◌}
use borrow.Author.Tests.{eqb-true, eqb-false, eq-eqb, ne_eqb, leb-false, not-false}
use lib.Dec.{eqb}
use Rattle.common.proofs.Bools.{by_cases, true-false, false-of-not-true}
use Rattle.common.proofs.Bools.{or_left, or_right, or-false-left, or-false-right}
use Rattle.common.proofs.Lists.{all-at, all-intro, all-fails}
use Rattle.common.proofs.When.{when-known, unless-known, all-when-intro}
use Rattle.sheet.specs.Model.{Move, Model, move_at}
use Rattle.sheet.specs.Valid.{Valid}
use Rattle.plan.specs.Groups.{group_of}
use Rattle.plan.specs.Table.{Entry}
use Rattle.plan.specs.Shown.{usable_in}
use Rattle.plan.specs.Reading.{well_shaped}
use Rattle.plan.proofs.Shown.{usable-shown}
use Rattle.command.specs.Attainable.{groups}
use Rattle.command.specs.Next.{holds_inside, holds_outside, unfit, unfit_with}
use Rattle.command.specs.Method.{Fit, Ready, Waits}
use Rattle.command.proofs.Following

pub none-of-six : (a b c d e f : Bool) → a || b || c || d || e || f ≡ false
    → (a ≡ false) × (b ≡ false) × (c ≡ false) × (d ≡ false) × (e ≡ false) × (f ≡ false)
none-of-six a b c d e f h =
    let five = or-false-left (a || b || c || d || e) f h in
    let four = or-false-left (a || b || c || d) e five in
    let three = or-false-left (a || b || c) d four in
    let two = or-false-left (a || b) c three in (
      or-false-left a b two,
      or-false-right a b two,
      or-false-right (a || b) c three,
      or-false-right (a || b || c) d four,
      or-false-right (a || b || c || d) e five,
      or-false-right (a || b || c || d || e) f h,
    )

module _ (m : Model) (valid : Valid m) (plan : List ℕ) (shaped : well_shaped m plan ≡ true) (state : List ℕ) (k : ℕ) where
  pub fit-test : {e : Entry} → Fit m plan state k e → unfit m plan state k e ≡ false
  unfolding holds_inside
  fit-test {e} f =
      Following.fit m plan state (usable_in m plan) k e f.route f.listed f.own f.from-now
      (all-when-intro _ _ (move_at m e.move).guards (λ g l i. f.inside g l (eqb-true _ _ i)))
      ((usable-shown m valid plan shaped e.move f.listed).1 f.usable)

  pub test-fit : {e : Entry} → unfit m plan state k e ≡ false → Fit m plan state k e
  unfolding unfit_with holds_inside
  test-fit {e} f =
      let (far, past, foreign, elsewhere, held, idle) = none-of-six _ _ _ _ _ _ f in
      record {
        route = eqb-false _ _ far;
        listed = leb-false _ _ past;
        own = eqb-true _ _ (not-false _ foreign);
        from-now = eqb-true _ _ (not-false _ elsewhere);
        inside = λ g l i. when-known (eq-eqb _ _ i) (all-at _ (not-false _ held) l);
        usable = (usable-shown m valid plan shaped e.move (leb-false _ _ past)).0 (not-false _ idle);
      }

module _ (m : Model) (plan state : List ℕ) (k : ℕ) where
  pub ready-test : (v : Move) → Ready m plan state k v → holds_outside m plan state k v ≡ true
  unfolding holds_outside
  ready-test v r =
      all-intro _ v.guards (λ g l. by_cases (eqb (group_of (groups m plan) g.machine) k)
      (λ t. or_left _ t)
      (λ f. or_right (eqb (group_of (groups m plan) g.machine) k) (r g l (eqb-false _ _ f))))

  pub test-ready : (v : Move) → holds_outside m plan state k v ≡ true → Ready m plan state k v
  unfolding holds_outside
  test-ready v t g l n = unless-known (ne_eqb _ _ n) (all-at _ t l)

  pub test-waits : (v : Move) → holds_outside m plan state k v ≡ false → Waits m plan state k v
  unfolding holds_outside
  test-waits v f =
      let r = all-fails _ v.guards f in
      let own = eqb (group_of (groups m plan) r.0.machine) k in
      record {
        need = r.0;
        among = r.1;
        outside = eqb-false _ _ (or-false-left own _ r.2);
        fails = λ h. true-false h (or-false-right own _ r.2);
      }

  pub waits-test : (v : Move) → Waits m plan state k v → holds_outside m plan state k v ≡ false
  waits-test v w = false-of-not-true (λ t. w.fails (test-ready v t w.need w.among w.outside))
