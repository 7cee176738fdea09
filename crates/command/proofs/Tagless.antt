-- Next command and applying see of a state its modes and three tests, which see no tag where none hangs.
-- Assumes nothing.
use Prim.Native.Nat.{ℕ, zero, suc, ◌+◌, ◌*◌}
use mathlib.Core.Path.{◌≡◌, refl, ap, ap₂, fun_ext, ◌∙◌}
use mathlib.Core.List.{List, [], ◌∷◌, flat_map}
use mathlib.Core.Bool.{cond, and-true, or-false}
use native.Mathlib.Omega.{arith}
use lib.Dec.{eqb}
use lib.ListN.{get_or}
use lib.Seq.{ext_get_or}
use Rattle.common.specs.Reply.{Reply, given, Fault, unless, and_then}
use Rattle.common.proofs.Bools.{by_cases}
use Rattle.common.proofs.Lists.{all-cong}
use Rattle.sheet.specs.Record.{byte}
use Rattle.sheet.specs.Model.{Move, Model, move_at}
use Rattle.plan.specs.Groups.{members}
use Rattle.plan.specs.Modes.{mode_number}
use Rattle.plan.specs.Table.{Entry}
use Rattle.plan.specs.Reading.{groups_in}
use Rattle.command.specs.State.{every_second, modes, tag_of, bad_pair, state_faults}
use Rattle.command.specs.Goal.{Masks, met}
use Rattle.command.specs.Attainable.{live_group, dead_end, group_faults, attain_faults}
use Rattle.command.specs.Next.{Next, holds_inside, holds_outside, unfit, unfit_with, prepare_by, follow_by, follow_with, fulfil, fulfil_with}
use Rattle.command.specs.Next.{goal_refusals, next_reply}
use Rattle.command.specs.Apply.{Applied, none_acts, acts, acting_move, state_by, applied_by, apply_reply, effect_reply, state_after}
use Rattle.command.specs.Tagless.{tagless, SameModes, TagsUnseen, TaglessSame}
use Rattle.command.proofs.Following.{same-entry}
use Rattle.command.proofs.States.{tag-place, modes-long, modes-with_mode}

-- What fulfils a goal sees the modes alone

module _ (m : Model) (plan state other : List ℕ) (same : modes state ≡ modes other) where
  inside-same : (k : ℕ) (v : Move) → holds_inside m plan state k v ≡ holds_inside m plan other k v
  unfolding holds_inside
  inside-same k v = rw same

  outside-same : (k : ℕ) (v : Move) → holds_outside m plan state k v ≡ holds_outside m plan other k v
  unfolding holds_outside
  outside-same k v = rw same

  unfit-same : (k : ℕ) (e : Entry) → unfit m plan state k e ≡ unfit m plan other k e
  unfolding unfit_with
  unfit-same k e = rw (inside-same k (move_at m e.move), same)

  follow-same : (f : Masks → Reply Next) (masks : Masks) (k : ℕ)
      → follow_by m plan state f masks k ≡ follow_by m plan other f masks k
  unfolding follow_with prepare_by
  follow-same f masks k =
      simp (same-entry m plan other state masks k (ap (mode_number m (groups_in m plan) k) same), unfit-same, outside-same)

  pub met-same : (masks : Masks) (k : ℕ) → met (groups_in m plan) masks state k ≡ met (groups_in m plan) masks other k
  unfolding met
  met-same masks k = rw same

  pub fulfil-same : (masks : Masks) (n : ℕ) → fulfil m plan state masks n ≡ fulfil m plan other masks n
  unfolding fulfil_with
  fulfil-same masks zero = refl
  fulfil-same masks (suc k) =
      rw (met-same masks k)
      (ap₂ (cond (met (groups_in m plan) masks other k)) (fulfil-same masks k)
      (follow-same _ masks k ∙ ap (λ f. follow_by m plan other f masks k) (fun_ext (λ needs. fulfil-same needs k))))

-- Of two states with the same modes

module _ (m : Model) (state other : List ℕ) (alike : SameModes m state other) where
  pub same-list : modes state ≡ modes other
  same-list = ext_get_or 0 (modes state) (modes other) (modes-long state other alike.as_long) (λ i l. alike.modes-same i)

  faults-same : state_faults m state ≡ state_faults m other
  unfolding state_faults
  faults-same = rw (fun_ext alike.pairs-same, alike.as_long)

  refusals-same : (plan goal : List ℕ) → ((k : ℕ) → live_group m plan state k ≡ live_group m plan other k)
      → goal_refusals m plan state goal ≡ goal_refusals m plan other goal
  unfolding goal_refusals attain_faults group_faults dead_end met
  refusals-same plan goal live = rw (faults-same, fun_ext live, same-list)

  module _ (machine sent : ℕ) (answer : (v : ℕ) → acts m state machine sent v ≡ acts m other machine sent v) where
    move_same : acting_move m state machine sent ≡ acting_move m other machine sent
    unfolding acting_move
    move_same = rw (fun_ext answer)

    modes-by : modes (state_by m state machine sent) ≡ modes (state_by m other machine sent)
    unfolding state_by
    modes-by =
        rw move_same
        (by_cases (eqb (acting_move m other machine sent) none_acts)
        (λ t. rw t same-list)
        (λ f. rw (f, modes-with_mode, modes-with_mode, same-list)))

-- what applying tells and leaves, behind causes
told_same : (fs : List Fault) (a b : Applied) (s t : List ℕ) → a.move ≡ b.move → modes a.state ≡ modes b.state
    → modes s ≡ modes t
    → (effect_reply (unless fs (given a)) ≡ effect_reply (unless fs (given b)))
    × (modes (state_after (unless fs (given a)) s) ≡ modes (state_after (unless fs (given b)) t))
unfolding unless
told_same [] a b s t e after before = (rw e, after)
told_same (f ∷ fs) a b s t e after before =
    by_cases f.applies (λ y. rw y (refl, before)) (λ n. rw n (told_same fs a b s t e after before))

module _ (m : Model) (state other : List ℕ) (alike : SameModes m state other) (machine sent : ℕ)
    (answer : (v : ℕ) → acts m state machine sent v ≡ acts m other machine sent v) where
  abbrev reply : List ℕ → Reply Applied
  reply s = unless (state_faults m s) (given (applied_by m s machine sent))

  told : (effect_reply (reply state) ≡ effect_reply (reply other))
      × (modes (state_after (reply state) state) ≡ modes (state_after (reply other) other))
  told =
      rw (faults-same m state other alike)
      (told_same (state_faults m other) _ _ state other (move_same m state other alike machine sent answer)
      (modes-by m state other alike machine sent answer) (same-list m state other alike))

-- A state with no tags

modes-tagless : (ms : List ℕ) → modes (tagless ms) ≡ ms
unfolding modes tagless every_second flat_map
modes-tagless [] = refl
modes-tagless (x ∷ ms) = ap (λ r. x ∷ r) (modes-tagless ms)

second-tagless : (ms : List ℕ) (i : ℕ) → byte (tagless ms) (2 * i + 1) ≡ 0
unfolding tagless flat_map
second-tagless [] i = refl
second-tagless (x ∷ ms) zero = refl
second-tagless (x ∷ ms) (suc i) =
    let e : 2 * suc i + 1 ≡ suc (suc (2 * i + 1)) = omega arith in rw e (second-tagless ms i)

tag-tagless : (ms : List ℕ) (i : ℕ) → tag_of (tagless ms) i ≡ 0
tag-tagless ms i = tag-place (tagless ms) i ∙ second-tagless ms i

tags-unseen : (m : Model) (plan ms : List ℕ) → TagsUnseen m plan ms
unfolding bad_pair live_group acts
tags-unseen m plan ms =
    record {
      pair_is = λ i. rw (tag-tagless, or-false, modes-tagless);
      live-is = λ k. all-cong _ _ (members (groups_in m plan) k) (λ i l. rw (tag-tagless, and-true, modes-tagless));
      acts-is = λ machine sent v. rw (tag-tagless, and-true, modes-tagless);
    }

pub tagless-same : TaglessSame
unfolding next_reply apply_reply and_then
tagless-same =
    record {
      no-more-seen = λ sheet plan state other goal machine sent d parses alike.
          let m = d.model in
          let list = same-list m state other alike in
          record {
            next-same = λ live.
                let list = same-list m state other alike in
                rw (parses, refusals-same m state other alike plan goal live, fulfil-same m plan state other list);
            effect-same = λ answer. rw parses (told m state other alike machine sent answer).0;
            modes-after = λ answer i. rw parses (ap (λ ms. get_or ms i 0) (told m state other alike machine sent answer).1);
          };
      no-tag-seen = tags-unseen;
    }
