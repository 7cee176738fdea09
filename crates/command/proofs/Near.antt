-- Every refusal of next command or of applying has a number that is not 0 and a place of two bytes.
-- Assumes nothing.
use Prim.Native.Nat.{ℕ, zero, suc, ◌≤◌, ◌<◌}
use mathlib.Core.Path.{◌≡◌, subst}
use mathlib.Core.Logic.{⊎_elim}
use mathlib.Core.List.{List, [], ◌∷◌, ◌++◌, flat_map, append_assoc}
use mathlib.Core.Bool.{Bool}
use native.Mathlib.Omega.{arith}
use borrow.Author.Tests.{ltb-false}
use lib.ListN.{length, length-take, length-drop}
use Rattle.common.specs.Lists.{up_to, any, find}
use Rattle.common.specs.Reply.{Reply, given, refused, Fault, unless}
use Rattle.common.proofs.Bools.{by_cases}
use Rattle.common.proofs.Search.{find-up_to-below, find_none}
use Rattle.common.proofs.Reply.{Each, Silent, caused-each, refused-cause, and_then-refused}
use Rattle.sheet.specs.Record.{part}
use Rattle.sheet.specs.Model.{Move, Model, machine_count}
use Rattle.sheet.specs.Valid.{Valid}
use Rattle.sheet.specs.Parse.{parse}
use Rattle.sheet.proofs.Parsed.{parse-valid}
use Rattle.sheet.proofs.Place.{Near, refusal-near}
use Rattle.plan.specs.Groups.{smallest_member}
use Rattle.plan.specs.Reading.{groups_in}
use Rattle.plan.specs.Shown.{usable_in}
use Rattle.plan.proofs.GroupLoops.{smallest-inside}
use Rattle.command.specs.State.{bad_pair, state_faults}
use Rattle.command.specs.Goal.{bad_byte, goal_faults}
use Rattle.command.specs.Goal.{Masks, goal_masks, met}
use Rattle.command.specs.Attainable.{groups, dead_end, fault_of, group_faults, attain_faults, cover_faults}
use Rattle.command.specs.Next.{Next, holds_outside, prepare_by, follow_by, follow_with, fulfil, fulfil_with, goal_refusals, next_reply}
use Rattle.command.specs.Apply.{apply_reply}
use Rattle.command.proofs.Refusals.{causes_of}

-- a reply that, if it is a refusal, is near
abbrev pub NearReply : {A : Type 0} → Reply A → Type 0
NearReply (given a) = Unit {0}
NearReply (refused number place) = Near number place

abbrev pub NearFault : Fault → Type 0
NearFault f = Near f.number f.place

module _ {A : Type 0} (r : Reply A) where
  pub none-near : NearReply r → NearReply (unless [] r)
  unfolding unless
  none-near h = h

  -- a cause that is near, before others that count only where it does not apply
  pub first-near : (f : Fault) (fs : List Fault) → NearFault f → (Silent f → NearReply (unless fs r))
      → NearReply (unless (f ∷ fs) r)
  unfolding unless
  first-near f fs h later = by_cases f.applies (λ t. rw t h) (λ n. rw n (later n))

  -- causes that are all near, before others
  each-near : (fs gs : List Fault) → Each NearFault fs → NearReply (unless gs r) → NearReply (unless (fs ++ gs) r)
  each-near [] gs h later = later
  each-near (f ∷ fs) gs h later = first-near f (fs ++ gs) h.0 (λ n. each-near fs gs h.1 later)

-- the first of the numbers below n that, or 0
pub find-inside : (p : ℕ → Bool) (n : ℕ) → find p (up_to n) 0 ≤ n
find-inside p n =
    by_cases (any p (up_to n))
    (λ t. omega (arith, find-up_to-below p n 0 t))
    (λ f. omega (arith, find_none p (up_to n) 0 f))

-- Following the entries refuses with 15, whose place is 0
module _ (m : Model) (plan state : List ℕ) where
  prepare-near : (lower : Masks → Reply Next) (k : ℕ) (v : Move) → ((needs : Masks) → NearReply (lower needs))
      → NearReply (prepare_by m plan state lower k v)
  unfolding prepare_by
  prepare-near lower k v h = by_cases (holds_outside m plan state k v) (λ t. rw t tt) (λ f. rw f (h _))

  follow-near : (lower : Masks → Reply Next) (masks : Masks) (k : ℕ) → ((needs : Masks) → NearReply (lower needs))
      → NearReply (follow_by m plan state lower masks k)
  unfolding follow_with
  follow-near lower masks k h = first-near _ _ [] (omega arith) (λ n. none-near _ (prepare-near lower k _ h))

  fulfil-near : (masks : Masks) (n : ℕ) → NearReply (fulfil m plan state masks n)
  unfolding fulfil_with
  fulfil-near masks zero = tt
  fulfil-near masks (suc k) =
      by_cases (met (groups m plan) masks state k)
      (λ t. rw t (fulfil-near masks k))
      (λ f. rw f (follow-near _ masks k (λ needs. fulfil-near needs k)))

-- For a valid model every cause stands at 0, at 255 or at a machine
module _ (m : Model) (valid : Valid m) where
  state-near : (state : List ℕ) → Each NearFault (state_faults m state)
  unfolding state_faults
  state-near state = omega (arith, find-inside (bad_pair m state) (machine_count m), valid.few-machines)

  -- 14 stands at a byte only of a goal that is not too long
  goal-near : {A : Type 0} (r : Reply A) (goal : List ℕ) (fs : List Fault) → NearReply (unless fs r)
      → NearReply (unless (goal_faults m goal ++ fs) r)
  unfolding goal_faults
  goal-near r goal fs later =
      first-near r _ _ (omega arith) (λ n.
      let l = ltb-false (machine_count m) (length goal) n in
      first-near r _ fs (omega (arith, find-inside (bad_byte m goal) (length goal), valid.few-machines)) (λ k. later))

  module _ (plan state : List ℕ) (masks : Masks) where
    smallest-near : (number k : ℕ) → 0 < number → Near number (smallest_member (groups m plan) k)
    unfolding groups_in part
    smallest-near number k some =
        let few : length (groups m plan) ≤ machine_count m = simp (length-take, length-drop) (omega arith) in
        omega (arith, smallest-inside (groups m plan) k, valid.few-machines)

    group-near : (k : ℕ) → Each NearFault (group_faults m plan (usable_in m plan) (dead_end m plan) state masks k)
    unfolding group_faults fault_of
    group-near k =
        (smallest-near 16 _ (omega arith), (smallest-near 17 k (omega arith), (smallest-near 18 _ (omega arith), tt)))

    causes-near : (k : ℕ) → Each NearFault (causes_of m plan (usable_in m plan) state masks k)
    causes-near k = by_cases (met (groups m plan) masks state k) (λ t. rw t tt) (λ f. rw f (group-near k))

    attain-near : {A : Type 0} (r : Reply A) → NearReply r → (ks : List ℕ)
        → NearReply (unless (flat_map (causes_of m plan (usable_in m plan) state masks) ks) r)
    unfolding flat_map
    attain-near r h [] = none-near r h
    attain-near r h (k ∷ ks) = each-near r (causes_of m plan (usable_in m plan) state masks k) _ (causes-near k) (attain-near r h ks)

  refusals-near : {A : Type 0} (r : Reply A) (plan state goal : List ℕ) → NearReply r
      → NearReply (unless (goal_refusals m plan state goal) r)
  unfolding goal_refusals attain_faults
  refusals-near r plan state goal h =
      rw (append_assoc (state_faults m state) (goal_faults m goal) (cover_faults m plan state (goal_masks m goal)))
      (each-near r (state_faults m state) _ (state-near state)
      (goal-near r goal _ (attain-near plan state (goal_masks m goal) r h _)))

pub next-near : (sheet plan state goal : List ℕ) {number place : ℕ} → next_reply sheet plan state goal ≡ refused number place
    → Near number place
unfolding next_reply
next-near sheet plan state goal e =
    ⊎_elim
    (λ unread. refusal-near sheet unread)
    (λ (d, read, faulty).
    subst NearReply faulty
    (first-near _ _ _ (omega arith) (λ n.
    refusals-near d.model (parse-valid sheet read) _ plan state goal (fulfil-near d.model plan state _ _))))
    (and_then-refused (parse sheet) _ e)

pub apply-near : (sheet state : List ℕ) (machine command : ℕ) {number place : ℕ}
    → apply_reply sheet state machine command ≡ refused number place → Near number place
unfolding apply_reply
apply-near sheet state machine command e =
    ⊎_elim
    (λ unread. refusal-near sheet unread)
    (λ (d, read, faulty).
    caused-each Near (state-near d.model (parse-valid sheet read) state) (refused-cause _ _ faulty))
    (and_then-refused (parse sheet) _ e)
