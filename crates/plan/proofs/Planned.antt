-- Demand 2, whole: the plan that planning wrote is right, and it has the laws that arrival rests on.
-- Assumes nothing.
use Prim.Native.Nat.{ℕ, ◌<◌}
use mathlib.Core.Path.{◌≡◌, sym, subst}
use mathlib.Core.Logic.{◌↔◌}
use mathlib.Core.List.{List}
use native.Mathlib.Omega.{arith}
use Rattle.common.specs.Reply.{given}
use Rattle.sheet.specs.Model.{Model, move_count}
use Rattle.sheet.specs.Valid.{Valid}
use Rattle.sheet.specs.Parse.{Parsed, parse}
use Rattle.sheet.proofs.Parsed.{parse-valid}
use Rattle.plan.specs.Groups.{groups_of}
use Rattle.plan.specs.Reading.{groups_in, bound_in}
use Rattle.plan.specs.Planning.{plan_reply, own_plan}
use Rattle.plan.specs.Shape.{Shaped}
use Rattle.plan.specs.Promised.{UsableRight, OwnUsable, PlanRight, Planned, own_bound}
use Rattle.plan.specs.Laws.{Lawful}
use Rattle.plan.specs.Meaning.{Usable}
use Rattle.plan.specs.Shown.{UsableUnder}
use Rattle.plan.proofs.ModesRight.{modes-right}
use Rattle.plan.proofs.Groups.{groups-right, gapless-test, needs-first-test}
use Rattle.plan.proofs.Routes.{all_routes}
use Rattle.plan.proofs.Usable.{own-ordered, usable-means, stays-live}
use Rattle.plan.proofs.Laid.{groups-read}
use Rattle.plan.proofs.ReadBack.{plan-laid, entry-back, bound-back}
use Rattle.plan.proofs.Shape.{laid-shaped, shape-passes}
use Rattle.plan.proofs.PlanBytes.{plan-is-bytes}
use Rattle.plan.proofs.Planning.{length-groups_of, Accepted, accepted-length, plan-accepted}
use Rattle.plan.proofs.OwnLaws.{ReadsBack, LawsFor, own-entry, own-laws, own-usable}
use Rattle.plan.proofs.Bounds.{bound-right, few-moves}
use Rattle.plan.proofs.Shown.{usable-shown}

module _ (m : Model) (valid : Valid m) where
  -- the sheet's own plan reads back as what was computed
  pub own-groups : groups_in m (own_plan m) ≡ groups_of m
  unfolding own_plan
  own-groups = groups-read (plan-laid m (groups_of m) (all_routes m (groups_of m)) (length-groups_of m) (own_bound m))

  module _ {buffer scratch : ℕ} (a : Accepted m (own_plan m) buffer scratch) where
    pub own-shaped : Shaped m (own_plan m)
    unfolding own_plan
    own-shaped =
        let g = groups-right m valid in
        laid-shaped (plan-laid m (groups_of m) (all_routes m (groups_of m)) (length-groups_of m) (own_bound m))
        (gapless-test g) (needs-first-test valid g) a.small-groups

    pub own-reads : ReadsBack m (groups_of m) (own_plan m)
    unfolding own_plan
    own-reads =
        let n = length-groups_of m in
        record {
          ordered = own-ordered valid;
          small = a.small-groups;
          shaped = shape-passes own-shaped valid;
          entry_read = entry-back m (groups_of m) (all_routes m (groups_of m)) n (own_bound m);
          bound-read = bound-back m (groups_of m) (all_routes m (groups_of m)) n (own_bound m) (omega (arith, a.small-bound));
        }

    pub own-right : PlanRight m (own_plan m)
    own-right =
        let r = own-reads in
        record {
          shaped = own-shaped;
          bytes = plan-is-bytes valid a.small-groups;
          exact-length = accepted-length a;
          own-groups = own-groups;
          groups = groups-right m valid;
          modes = modes-right m valid (groups_of m) (length-groups_of m);
          entries = own-entry m (groups_of m) (own_plan m) r;
          small = a.small-groups;
          few-moves = few-moves valid a.small-groups;
          stays-live = stays-live valid (groups_of m);
          bound = bound-right (own-ordered valid) (bound_in m (own_plan m)) r.bound-read;
          bounded = omega (arith, a.small-bound, r.bound-read);
        }

    pub own-lawful : LawsFor m (own_plan m) (groups_of m)
    own-lawful = own-laws m (own_plan m) own-groups own-reads

    pub own-told : (v : ℕ) → v < move_count m → UsableUnder m (own_plan m) v ↔ Usable m (groups_of m) v
    own-told v h =
        let shown = usable-shown m valid (own_plan m) own-reads.shaped v h in
        let means = own-usable m (own_plan m) own-groups own-reads v h in
        (λ u. means.0 (shown.1 u), λ u. shown.0 (means.1 u))

-- what holds of a sheet's own plan where it is accepted holds of the plan that planning wrote
of-planned : (P : Model → List ℕ → Type 0)
    → ((m : Model) (buffer scratch : ℕ) → Valid m → Accepted m (own_plan m) buffer scratch → P m (own_plan m))
    → (sheet plan : List ℕ) (buffer scratch : ℕ) (d : Parsed) → parse sheet ≡ given d
    → plan_reply sheet buffer scratch ≡ given plan → P d.model plan
of-planned P f sheet plan buffer scratch d e r =
    let a = plan-accepted sheet d e buffer scratch r in
    subst (P d.model) (sym a.own)
    (f d.model buffer scratch (parse-valid sheet e) (subst (λ p. Accepted d.model p buffer scratch) a.own a))

pub planned : Planned
planned = of-planned PlanRight (λ m buffer scratch valid. own-right m valid)

-- it has the laws that arrival rests on
pub planned-lawful : (sheet plan : List ℕ) (buffer scratch : ℕ) (d : Parsed) → parse sheet ≡ given d
    → plan_reply sheet buffer scratch ≡ given plan → LawsFor d.model plan (groups_of d.model)
planned-lawful =
    of-planned (λ m plan. LawsFor m plan (groups_of m)) (λ m buffer scratch valid. own-lawful m valid)

-- and its entries tell the usable moves
pub planned-usable : OwnUsable
planned-usable =
    of-planned (λ m plan. (v : ℕ) → v < move_count m → UsableUnder m plan v ↔ Usable m (groups_of m) v)
    (λ m buffer scratch valid. own-told m valid)

pub lawful : Lawful
lawful sheet plan buffer scratch d e r = (_, _, planned-lawful sheet plan buffer scratch d e r)

pub usable-right : (m : Model) → Valid m → UsableRight m (groups_of m)
usable-right m valid = usable-means (own-ordered valid)
