-- The method picks one thing alone, next command replies that, and a move that is picked answers its command.
-- Assumes nothing.
use Prim.Native.Nat.{ℕ, zero, suc, ◌<◌}
use mathlib.Core.Path.{◌≡◌, refl, sym, ap, subst, ◌∙◌}
use mathlib.Core.List.{List}
use mathlib.Core.Bool.{true, false}
use mathlib.Core.Logic.{⊎_elim}
use native.Mathlib.Nat.{not-suc-le-zero}
use native.Mathlib.Omega.{arith}
use borrow.Author.Tests.{eqb-true, eqb-false}
use lib.Dec.{eqb}
use Rattle.common.specs.Reply.{Reply, given, refused, clear}
use Rattle.common.proofs.Reply.{given-not-refused}
use Rattle.common.proofs.Bools.{by_cases, true-false, true-of-not-false}
use Rattle.common.proofs.Least.{last-or-below}
use Rattle.sheet.specs.Model.{Model, move_count, move_at}
use Rattle.sheet.specs.Valid.{Valid}
use Rattle.sheet.specs.Parse.{Parsed, parse}
use Rattle.sheet.proofs.Parsed.{parse-valid}
use Rattle.plan.specs.Groups.{group_of}
use Rattle.plan.specs.Shown.{usable_in}
use Rattle.plan.specs.Reading.{groups_in, well_shaped}
use Rattle.command.specs.State.{mode_of, tag_of, state_faults}
use Rattle.command.specs.Goal.{Masks, goal_faults, goal_masks, met}
use Rattle.command.specs.Attainable.{groups, cover_faults}
use Rattle.command.specs.Next.{Next, done, command, target_of, holds_outside, unfit, prepare_by, follow_by, fulfil}
use Rattle.command.specs.Apply.{Answers}
use Rattle.command.specs.Method.{Pick, none_unmet, unfit_entry, entry_move, pick_reply}
use Rattle.command.specs.Method.{HighestUnmet, Target, entry_toward, move_toward, Fit, MethodRight, MethodFollowed}
use Rattle.command.specs.Method.{Picks, nothing-unmet, unfit as held_up, sends, prepares}
use Rattle.command.proofs.Following
use Rattle.command.proofs.Fitness.{fit-test, test-fit, ready-test, test-ready, waits-test, test-waits}
use Rattle.command.proofs.Targets.{LeavesModes, goal-leaves, needs-leave, allowed-some}
use Rattle.command.proofs.Targets.{target_right, target-only}
use Rattle.command.proofs.Shape.{sound-state}
use Rattle.command.proofs.Untagged.{picked-untagged}
use Rattle.command.proofs.Asking.{done-not-command, next-fulfils}
use Rattle.command.proofs.Shown.{bytes_small}
use Rattle.command.proofs.Admitted.{admitted-passes}

module _ (m : Model) (plan state : List ℕ) where
  -- What the method picks is replied

  pub fulfil-all-met : (masks : Masks) (n : ℕ) → ((k : ℕ) → k < n → met (groups m plan) masks state k ≡ true)
      → fulfil m plan state masks n ≡ given done
  fulfil-all-met masks zero h = Following.fulfil-none m plan state (usable_in m plan) masks
  fulfil-all-met masks (suc n) h =
      Following.fulfil-met m plan state (usable_in m plan) masks n (h n (omega arith)) ∙ fulfil-all-met masks n (λ k l. h k (omega arith))

  lowered : {masks : Masks} {n k : ℕ} → k < n → HighestUnmet m plan state masks (suc n) k
      → HighestUnmet m plan state masks n k
  lowered l h = record { below = l; unmet = h.unmet; above-met = λ j a b. h.above-met j a (omega arith) }

  -- fulfilling needs in the groups below k
  abbrev pub fulfil_below : ℕ → Masks → Reply Next
  fulfil_below k needs = fulfil m plan state needs k

  -- the groups above the highest unmet one are passed over
  pub fulfil-highest : {masks : Masks} (n : ℕ) {k : ℕ} → HighestUnmet m plan state masks n k
      → fulfil m plan state masks n ≡ follow_by m plan state (fulfil_below k) masks k
  fulfil-highest zero h = absurd (not-suc-le-zero h.below)
  fulfil-highest {masks} (suc n) {k} h =
      ⊎_elim
      (λ e. rw (← e) (Following.fulfil-unmet m plan state (usable_in m plan) masks k h.unmet))
      (λ l. Following.fulfil-met m plan state (usable_in m plan) masks n (h.above-met n l (omega arith)) ∙ fulfil-highest n (lowered l h))
      (last-or-below h.below)

  -- and its entry toward its target is followed
  module _ (valid : Valid m) (shaped : well_shaped m plan ≡ true) {masks : Masks} {n : ℕ} (k q : ℕ)
      (h : HighestUnmet m plan state masks n k) (t : Target m plan state masks k q) where
    here : target_of m plan state masks k ≡ q
    here = target-only m plan state masks k t

    fulfil-unfit : (Fit m plan state k (entry_toward m plan state k q) → ⊥) → fulfil m plan state masks n ≡ refused 15 0
    fulfil-unfit f =
        fulfil-highest n h
        ∙ Following.follow-unfit m plan state (usable_in m plan) _ masks k
        (rw here (true-of-not-false (λ u. f (test-fit m valid plan shaped state k u))))

    fulfil-fit : Fit m plan state k (entry_toward m plan state k q)
        → fulfil m plan state masks n
        ≡ prepare_by m plan state (fulfil_below k) k (move_toward m plan state k q)
    fulfil-fit f =
        fulfil-highest n h
        ∙ Following.follow-fit m plan state (usable_in m plan) _ masks k (rw here (fit-test m valid plan shaped state k f))
        ∙ ap (λ x. prepare_by m plan state (fulfil_below k) k (move_toward m plan state k x)) here

  picks-replied : Valid m → well_shaped m plan ≡ true → {masks : Masks} {n : ℕ} {p : Pick} → Picks m plan state masks n p
      → fulfil m plan state masks n ≡ pick_reply m p
  picks-replied valid shaped {masks} {n} (nothing-unmet h) = fulfil-all-met masks n h
  picks-replied valid shaped (held_up k q h t f) = fulfil-unfit valid shaped k q h t f
  picks-replied valid shaped (sends k q h t f o) =
      fulfil-fit valid shaped k q h t f ∙ Following.prepare-sends m plan state _ k _ (ready-test m plan state k _ o)
  picks-replied valid shaped (prepares k q h t f w p) =
      fulfil-fit valid shaped k q h t f ∙ Following.prepare-asks m plan state _ k _ (waits-test m plan state k _ w)
      ∙ picks-replied valid shaped p

  -- Something is picked

  highest : (masks : Masks) (k : ℕ) → met (groups m plan) masks state k ≡ false
      → HighestUnmet m plan state masks (suc k) k
  highest masks k unmet =
      record { below = omega arith; unmet = unmet; above-met = λ j l h. absurd (omega arith) }

  raised : {masks : Masks} {k j : ℕ} → met (groups m plan) masks state k ≡ true → HighestUnmet m plan state masks k j
      → HighestUnmet m plan state masks (suc k) j
  raised e h =
      record {
        below = omega (arith, h.below);
        unmet = h.unmet;
        above-met = λ i l b. ⊎_elim (λ s. rw s e) (λ s. h.above-met i l s) (last-or-below b);
      }

  lifted : {masks : Masks} {k : ℕ} {p : Pick} → met (groups m plan) masks state k ≡ true
      → Picks m plan state masks k p → Picks m plan state masks (suc k) p
  lifted e (nothing-unmet f) = nothing-unmet (λ a h. ⊎_elim (λ i. rw i e) (λ i. f a i) (last-or-below h))
  lifted e (held_up j q h t f) = held_up j q (raised e h) t f
  lifted e (sends j q h t f o) = sends j q (raised e h) t f o
  lifted e (prepares j q h t f w p) = prepares j q (raised e h) t f w p

  module _ (valid : Valid m) (shaped : well_shaped m plan ≡ true) where
    picks-some : (n : ℕ) (masks : Masks) → LeavesModes m masks → (p : Pick) × Picks m plan state masks n p
    picks-some zero masks leaves = (none_unmet, nothing-unmet (λ k h. absurd (not-suc-le-zero h)))
    picks-some (suc k) masks leaves =
        by_cases (met (groups m plan) masks state k)
        (λ e. let r = picks-some k masks leaves in (r.0, lifted e r.1))
        (λ unmet.
        let some = allowed-some m valid plan shaped masks leaves k in
        let q = target_of m plan state masks k in
        let h = highest masks k unmet in
        let t = target_right m plan state masks k some.1 some.2 in
        by_cases (unfit m plan state k (entry_toward m plan state k q))
        (λ u. (unfit_entry, held_up k q h t (λ f. true-false u (fit-test m valid plan shaped state k f))))
        (λ u.
        let f = test-fit m valid plan shaped state k u in
        let v = move_toward m plan state k q in
        by_cases (holds_outside m plan state k v)
        (λ o. (entry_move (entry_toward m plan state k q).move, sends k q h t f (test-ready m plan state k v o)))
        (λ o. let r = picks-some k _ (needs-leave m valid (groups_in m plan) k _ f.listed) in
        (r.0, prepares k q h t f (test-waits m plan state k v o) r.1))))

  -- Nothing else is

  -- a move that is picked starts from the mode that its machine is in, and answers its command if that has no tag
  pub record Starts (v : ℕ) : Type 0 where
    pub listed : v < move_count m
    pub from-now : (move_at m v).from ≡ mode_of state (move_at m v).machine
    pub answers : tag_of state (move_at m v).machine ≡ 0 → Answers m state (move_at m v).machine (move_at m v).command v

  abbrev OwnStarts : Pick → Type 0
  OwnStarts none_unmet = Unit {0}
  OwnStarts unfit_entry = Unit {0}
  OwnStarts (entry_move v) = Starts v

  pub picked-starts : {masks : Masks} {n : ℕ} {p : Pick} → Picks m plan state masks n p → OwnStarts p
  picked-starts (nothing-unmet h) = tt
  picked-starts (held_up k q h t f) = tt
  picked-starts (sends k q h t f o) =
      record {
        listed = f.listed;
        from-now = sym f.from-now;
        answers = λ free. record {
          there = f.listed;
          its-machine = refl;
          its-from = sym f.from-now;
          its-byte = refl;
          its-needs = λ g l. by_cases (eqb (group_of (groups m plan) g.machine) k)
              (λ i. f.inside g l (eqb-true _ _ i)) (λ i. o g l (eqb-false _ _ i));
          no-tag = free;
        };
      }
  picked-starts (prepares k q h t f w p) = picked-starts p

  module _ (valid : Valid m) (shaped : well_shaped m plan ≡ true) where
    -- and no other pick has the same reply
    same-reply : (p q : Pick) → OwnStarts p → OwnStarts q → pick_reply m p ≡ pick_reply m q → p ≡ q
    same-reply none_unmet none_unmet a b e = refl
    same-reply none_unmet unfit_entry a b e = absurd (given-not-refused e)
    same-reply none_unmet (entry_move w) a b e = absurd (done-not-command e)
    same-reply unfit_entry none_unmet a b e = absurd (given-not-refused (sym e))
    same-reply unfit_entry unfit_entry a b e = refl
    same-reply unfit_entry (entry_move w) a b e = absurd (given-not-refused (sym e))
    same-reply (entry_move v) none_unmet a b e = absurd (done-not-command (sym e))
    same-reply (entry_move v) unfit_entry a b e = absurd (given-not-refused e)
    same-reply (entry_move v) (entry_move w) a b e =
        let machine : (move_at m w).machine ≡ (move_at m v).machine = cc in
        let byte : (move_at m w).command ≡ (move_at m v).command = cc in
        ap entry_move
        (valid.moves-distinct v w a.listed b.listed (sym machine)
        (a.from-now ∙ sym (b.from-now ∙ ap (mode_of state) machine)) (sym byte))

    picks-one : {masks : Masks} {n : ℕ} {p q : Pick} → Picks m plan state masks n p → Picks m plan state masks n q → p ≡ q
    picks-one {masks} {n} {p} {q} a b =
        same-reply p q (picked-starts a) (picked-starts b) (sym (picks-replied valid shaped a) ∙ picks-replied valid shaped b)

    -- a command that is replied, and that a move answers, is picked by the entry that names this move
    pub picks-move : (n : ℕ) (masks : Masks) → LeavesModes m masks → (v : ℕ)
        → Answers m state (move_at m v).machine (move_at m v).command v
        → fulfil m plan state masks n ≡ given (command (move_at m v).machine (move_at m v).command)
        → Picks m plan state masks n (entry_move v)
    picks-move n masks leaves v a e =
        let (p, picks) = picks-some valid shaped n masks leaves in
        subst (Picks m plan state masks n)
        (same-reply p (entry_move v) (picked-starts picks) starts (sym (picks-replied valid shaped picks) ∙ e)) picks
      where
        starts : Starts v
        starts = record { listed = a.there; from-now = a.its-from; answers = λ free. a }

-- where 13, 14 and 16 to 18 pass
module _ (sheet plan state goal : List ℕ) (d : Parsed) (parsed : parse sheet ≡ given d) (shaped : well_shaped d.model plan ≡ true)
    (state-good : clear (state_faults d.model state) ≡ true) (goal-good : clear (goal_faults d.model goal) ≡ true)
    (covers : clear (cover_faults d.model plan state (goal_masks d.model goal)) ≡ true) where
  pub method-right : MethodRight d.model sheet plan state goal
  method-right =
      let m = d.model in
      let valid = parse-valid sheet parsed in
      let (p, picks) = picks-some m plan state valid shaped _ _ (goal-leaves m valid goal goal-good) in
      record {
        pick = p;
        picked = picks;
        alone = λ q h. picks-one m plan state valid shaped h picks;
        replied =
            next-fulfils sheet plan state goal d parsed shaped state-good goal-good covers
            ∙ picks-replied m plan state valid shaped picks;
        answers = λ v h. (picked-starts m plan state h).answers
            (picked-untagged m valid plan shaped state (sound-state m state state-good) _ covers v h);
      }

pub method-followed : MethodFollowed
method-followed sheet plan state goal d parsed shaped bytes admitted =
    let small = bytes_small d.model plan bytes in
    let parts = admitted-passes d.model (parse-valid sheet parsed) plan shaped small state goal admitted in
    method-right sheet plan state goal d parsed shaped parts.0 parts.1 parts.2
