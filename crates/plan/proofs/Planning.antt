-- The replies of planning and of the plan's length: what an accepted sheet has passed, and which of 9 to 12 refuses.
-- Assumes nothing.
use Prim.Native.Nat.{ℕ, zero, suc, ◌*◌, ◌≤◌, ◌<◌}
use mathlib.Core.Path.{◌≡◌, sym, ap, ◌∙◌}
use mathlib.Core.List.{List, [], ◌∷◌, ◌++◌, map}
use mathlib.Core.Bool.{true, false}
use lib.ListN.{length, length-replicate}
use Rattle.common.specs.Lists.{up_to, sum}
use Rattle.common.specs.Graph.{Graph, Matrix, distances}
use Rattle.common.specs.Reply.{given, refused, Fault, fault, unless, and_then}
use Rattle.common.proofs.Members.{length-map-up_to}
use Rattle.common.proofs.Reply.{unless-clear, given-clear, given_stays, first-refuses}
use Rattle.sheet.specs.Model.{Model, machine_count}
use Rattle.sheet.specs.Parse.{Parsed, parse}
use Rattle.plan.specs.Needs.{need_graph}
use Rattle.plan.specs.Groups.{Grouping, group_count, groups_of, with_number, numbered_upto}
use Rattle.plan.specs.Modes.{size}
use Rattle.plan.specs.Routes.{routes_upto}
use Rattle.plan.specs.Bound.{plan_bound}
use Rattle.plan.specs.Bytes.{plan_length}
use Rattle.plan.specs.Planning.{large_group, large_place, large_plan, large_bound, size_faults, wrong_buffer}
use Rattle.plan.specs.Planning.{own_plan, length_reply, plan_reply}
use Rattle.plan.proofs.Limits.{no-large-group, no-large-plan, no-large-bound, right-buffer, right-scratch}
use Rattle.plan.proofs.Laid.{laid-length}
use Rattle.plan.proofs.ReadBack.{plan-laid}

-- The length of the plan

length-numbered_upto : (g : Graph) (d : Matrix) (k : ℕ) → length (numbered_upto g d k) ≡ length g
unfolding numbered_upto with_number
length-numbered_upto g d zero = length-replicate (length g) (length g)
length-numbered_upto g d (suc k) = length-map-up_to _ (length g)

pub length-groups_of : (m : Model) → length (groups_of m) ≡ machine_count m
unfolding groups_of need_graph
length-groups_of m =
    length-numbered_upto (need_graph m) (distances (need_graph m)) (machine_count m) ∙ length-map-up_to _ (machine_count m)

pub length-own_plan : (m : Model) → length (own_plan m) ≡ plan_length m (groups_of m)
unfolding own_plan
length-own_plan m = laid-length (plan-laid m (groups_of m) _ (length-groups_of m) _)

-- what a sheet has passed that is planned
pub record Accepted (m : Model) (plan : List ℕ) (buffer scratch : ℕ) : Type 0 where
  pub own : plan ≡ own_plan m
  pub small-groups : (k : ℕ) → k < group_count (groups_of m) → size m (groups_of m) k ≤ 64
  pub small-plan :
      sum (map (λ k. size m (groups_of m) k * size m (groups_of m) k) (up_to (group_count (groups_of m)))) ≤ 16384
  pub small-bound : plan_bound m (groups_of m) (routes_upto m (groups_of m) (group_count (groups_of m))) ≤ 65535
  pub right-buffer : buffer ≡ plan_length m (groups_of m)
  pub right-scratch : 512 ≤ scratch

pub accepted-length : {m : Model} {plan : List ℕ} {buffer scratch : ℕ} → Accepted m plan buffer scratch
    → length plan ≡ plan_length m (groups_of m)
accepted-length {m} a = ap length a.own ∙ length-own_plan m

-- a refusal of the sheet stays
pub plan-unread : (sheet : List ℕ) (buffer scratch : ℕ) {number place : ℕ} → parse sheet ≡ refused number place
    → plan_reply sheet buffer scratch ≡ refused number place
unfolding plan_reply and_then
plan-unread sheet buffer scratch e = rw e

pub length-unread : (sheet : List ℕ) {number place : ℕ} → parse sheet ≡ refused number place
    → length_reply sheet ≡ refused number place
unfolding length_reply and_then
length-unread sheet e = rw e

module _ (sheet : List ℕ) (d : Parsed) (e : parse sheet ≡ given d) where
  abbrev m : Model
  m = d.model

  abbrev own : Grouping
  own = groups_of m

  module _ (buffer scratch : ℕ) where
    abbrev later_faults : List Fault
    later_faults = fault 11 0 (large_bound m own) ∷ fault 12 0 (wrong_buffer m own buffer scratch) ∷ []

    plan-judged : plan_reply sheet buffer scratch ≡ unless (size_faults m own ++ later_faults) (given (own_plan m))
    unfolding plan_reply and_then
    plan-judged = rw e

    pub plan-accepted : {plan : List ℕ} → plan_reply sheet buffer scratch ≡ given plan → Accepted m plan buffer scratch
    unfolding size_faults
    plan-accepted {plan} g =
        let h = sym plan-judged ∙ g in
        let c = given-clear _ _ h in
        let same : given (own_plan m) ≡ given plan = given_stays _ _ h in
        record {
          own = cc;
          small-groups = no-large-group m own c.0;
          small-plan = no-large-plan m own c.1.0;
          small-bound = no-large-bound m own c.1.1.0;
          right-buffer = right-buffer m own buffer scratch c.1.1.1.0;
          right-scratch = right-scratch m own buffer scratch c.1.1.1.0;
        }

    -- Of 9 to 12 the first that applies refuses; where none does, the plan is given

    pub plan-refused-9 : large_group m own ≡ true → plan_reply sheet buffer scratch ≡ refused 9 (large_place m own)
    unfolding size_faults
    plan-refused-9 t = plan-judged ∙ first-refuses [] _ _ _ tt t

    pub plan-refused-10 : large_group m own ≡ false → large_plan m own ≡ true
        → plan_reply sheet buffer scratch ≡ refused 10 0
    unfolding size_faults
    plan-refused-10 a t = plan-judged ∙ first-refuses (fault 9 _ _ ∷ []) _ _ _ (a, tt) t

    pub plan-refused-11 : large_group m own ≡ false → large_plan m own ≡ false → large_bound m own ≡ true
        → plan_reply sheet buffer scratch ≡ refused 11 0
    unfolding size_faults
    plan-refused-11 a b t = plan-judged ∙ first-refuses (fault 9 _ _ ∷ fault 10 0 _ ∷ []) _ _ _ (a, (b, tt)) t

    pub plan-refused-12 : large_group m own ≡ false → large_plan m own ≡ false → large_bound m own ≡ false
        → wrong_buffer m own buffer scratch ≡ true → plan_reply sheet buffer scratch ≡ refused 12 0
    unfolding size_faults
    plan-refused-12 a b c t =
        plan-judged ∙ first-refuses (fault 9 _ _ ∷ fault 10 0 _ ∷ fault 11 0 _ ∷ []) _ _ _ (a, (b, (c, tt))) t

    pub plan-given : large_group m own ≡ false → large_plan m own ≡ false → large_bound m own ≡ false
        → wrong_buffer m own buffer scratch ≡ false → plan_reply sheet buffer scratch ≡ given (own_plan m)
    unfolding size_faults
    plan-given a b c w = plan-judged ∙ unless-clear _ _ (a, (b, (c, (w, tt))))

  -- The plan's length

  length-judged : length_reply sheet ≡ unless (size_faults m own) (given (plan_length m own))
  unfolding length_reply and_then
  length-judged = rw e

  pub length-refused-9 : large_group m own ≡ true → length_reply sheet ≡ refused 9 (large_place m own)
  unfolding size_faults
  length-refused-9 t = length-judged ∙ first-refuses [] _ _ _ tt t

  pub length-refused-10 : large_group m own ≡ false → large_plan m own ≡ true → length_reply sheet ≡ refused 10 0
  unfolding size_faults
  length-refused-10 a t = length-judged ∙ first-refuses (fault 9 _ _ ∷ []) _ _ _ (a, tt) t

  pub length-given : large_group m own ≡ false → large_plan m own ≡ false → length_reply sheet ≡ given (plan_length m own)
  unfolding size_faults
  length-given a b = length-judged ∙ unless-clear _ _ (a, (b, tt))

  -- where planning gives a plan, the length that is told is the plan's
  pub length-reported : (buffer scratch : ℕ) {plan : List ℕ} → plan_reply sheet buffer scratch ≡ given plan
      → length_reply sheet ≡ given (length plan)
  unfolding size_faults
  length-reported buffer scratch {plan} g =
      let c = given-clear _ _ (sym (plan-judged buffer scratch) ∙ g) in
      length-given c.0 c.1.0 ∙ ap given (sym (accepted-length (plan-accepted buffer scratch g)))
