-- A loop over the guards of a move, by its body: what holds of those that were given.
-- Assumes nothing.
use Prim.Native.Nat.{ℕ, suc, ◌+◌, ◌-◌, ◌*◌, ◌/◌, ◌≤◌, ◌<◌}
use mathlib.Core.Path.{◌≡◌, sym, ap, subst, ◌∙◌}
use mathlib.Core.List.{List, [], ◌∷◌, ◌++◌}
use mathlib.Core.Bool.{Bool, true, false}
use native.Mathlib.Omega.{arith}
use lib.ListN.{length, take}
use lib.Seq.{take-suc, take_all}
use Rattle.common.specs.Lists.{any, all}
use Rattle.common.proofs.Bools.{true-false, false-of-not-true}
use Rattle.common.proofs.Lists.{any-intro, all-at}
use Rattle.common.proofs.Members.{mem-get_or}
use Rattle.std.specs.Borrow.{Bor}
use Rattle.std.proofs.Common.{Some, None}
use Rattle.sheet.specs.declared.guard.Guards.{Guards}
use Rattle.sheet.specs.Record.{byte}
use Rattle.sheet.specs.Kept.Guards.{GivesGuard}
use Rattle.sheet.specs.Model.{Guard, Model, guard, absent_guard, guard_at, move_of}
use Rattle.sheet.specs.Valid.{ValidGuard, ValidMove}
use Rattle.sheet.proofs.Guards.{guard-count, guard-here}

-- after some steps through the guards of a body
pub record GuardsUpto (P : List Guard → Type 0) (body : List ℕ) (g : Guards) : Type 0 where
  pub same : g.body.now ≡ body
  pub passed : ℕ
  pub place : g.at ≡ 4 + 2 * passed
  pub within : passed ≤ (length body - 4) / 2
  pub holds : P (take passed (move_of body).guards)

-- before the first step
pub guards-none : {P : List Guard → Type 0} {g start : Guards} {lent : Bor (List ℕ)} → g ≡ start → start.body ≡ lent → start.at ≡ 4
    → P [] → GuardsUpto P lent.now g
guards-none e same first h =
    rw e (record { same = ap (λ b. b.now) same; passed = 0; place = first; within = omega arith; holds = h })

module _ {body : List ℕ} {P : List Guard → Type 0} {g g' : Guards} (u : GuardsUpto P body g) where
  module _ {x : _} (s : GivesGuard g (Some x) g') where
    -- the guard that is given
    abbrev given : Guard
    given = guard x.machine.0 x.mask

    left : u.passed < length (move_of body).guards
    left = let more : g.at + 1 < length body = rw u.same at s.guard.inside in
        omega (arith, more, u.place, guard-count body)

    given-is : guard_at (move_of body) u.passed ≡ given
    given-is =
        let here : 2 * u.passed + 5 < length body = omega (arith, left, guard-count body) in
        let behind : 5 + 2 * u.passed ≡ g.at + 1 = omega (arith, u.place) in
        let machine : x.machine.0 ≡ byte body (4 + 2 * u.passed) = rw (u.same, u.place) at s.guard.machine in
        let mask : x.mask ≡ byte body (g.at + 1) = rw u.same at s.guard.mask in
        guard-here body u.passed here ∙ rw (machine, mask, behind)

    pub guard-valid : {m : Model} → ValidMove m (move_of body) → ValidGuard m (move_of body) given
    guard-valid v = rw (← given-is) (v.guards-valid u.passed left)

    pub guards-next : {Q : List Guard → Type 0} → ((gs : List Guard) → P gs → Q (gs ++ (given ∷ [])))
        → GuardsUpto Q body g'
    guards-next {Q} step =
        let gs = (move_of body).guards in
        record {
          same = ap (λ b. b.now) s.same ∙ u.same;
          passed = suc u.passed;
          place = omega (arith, s.guard.behind, u.place);
          within = omega (arith, left, guard-count body);
          holds = rw (take-suc gs u.passed absent_guard left, given-is) (step (take u.passed gs) u.holds);
        }

    -- one guard settles the question
    module _ (p : Guard → Bool) where
      pub guard-some : p given ≡ true → true ≡ any p (move_of body).guards
      guard-some y = sym (any-intro p (mem-get_or _ _ absent_guard left) (ap p given-is ∙ y))

      pub guard-fails : p given ≡ false → false ≡ all p (move_of body).guards
      guard-fails f =
          sym (false-of-not-true (λ t. true-false (all-at p t (mem-get_or _ _ absent_guard left)) (ap p given-is ∙ f)))

  pub guards-end : GivesGuard g None g' → P (move_of body).guards
  guards-end s =
      let gs = (move_of body).guards in
      let last : length body ≤ g.at + 1 = rw u.same at s.guard in
      subst P (take_all u.passed gs (omega (arith, last, u.place, guard-count body))) u.holds
