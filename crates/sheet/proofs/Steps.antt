-- One turn of the scan as the definitions have it: what a record that has been judged tells, and where it leads.
-- Assumes nothing.
use Prim.Native.Nat.{ℕ, ◌+◌, ◌≤◌, ◌<◌}
use mathlib.Core.Path.{◌≡◌, refl, sym, ap, ◌∙◌}
use mathlib.Core.Logic.{◌⊎◌, inl, inr, ⊎_elim}
use mathlib.Core.Bool.{true, false, not, cond, or-true}
use mathlib.Core.List.{List, [], ◌∷◌, ◌++◌}
use native.Mathlib.Omega.{arith}
use borrow.Author.Tests.{leb-false, le-leb, lt-leb, eqb-true, eqb-false, not-false}
use lib.Dec.{eqb, ltb, leb}
use lib.ListN.{length}
use Rattle.std.specs.Prelude.{Option, Result, Ok, Err, Some}
use Rattle.common.specs.Lists.{any}
use Rattle.common.specs.Reply.{Reply, given, refused, Fault, fault, unless}
use Rattle.common.proofs.Bools.{by_cases, true-false}
use Rattle.common.proofs.Reply.{Clear, unless-clear, unless-append, given-clear, refused-anyway}
use Rattle.sheet.specs.declared.record.Record.{Record}
use Rattle.sheet.specs.declared.refusal.Cause.{Cause}
use Rattle.sheet.specs.Refusal.{number_of}
use Rattle.sheet.specs.Record.{byte, record_at, body_at}
use Rattle.sheet.specs.Model.{Model, machine_count, move_count, move_of, is_same_move}
use Rattle.sheet.specs.Amend.{Amendment, amendment_of, named, Draft}
use Rattle.sheet.specs.Faults.{bad_move, bad_command, move_faults, late_faults}
use Rattle.sheet.specs.Faults.{unamendable, replace_faults, withdraw_faults, faults_of}
use Rattle.sheet.specs.Parse.{Progress, amended_by, Turn, more, ended, extended, turn_at, turn_of}
use Rattle.sheet.specs.Kept.Held.{fine, judged_of, body_faults, own_move_faults, own_replace_faults, own_withdraw_faults}
use Rattle.sheet.specs.Kept.Held.{own_faults, later_faults}
use Rattle.sheet.proofs.Records.{whole-starts, whole-within, body-part, part_length}
use Rattle.sheet.proofs.Fits.{MachinePasses, MoveSize, machine-passes, length-fits, parts}
use Rattle.sheet.proofs.Drafts.{with_machine_read, with_move_read, reads-machine, reads-move, reads-amendment}
use Rattle.sheet.proofs.Judging.{own-machine, own-move, own-replace, own-withdraw, own-unknown}

-- 8 for a command that an earlier move has, and 21, which are judged after a move's own causes
abbrev pub repeated : Draft → ℕ → List ℕ → List Fault
repeated x at body = fault 8 at (any (is_same_move (move_of body)) x.sent.moves) ∷ late_faults x at

-- 21, which is judged after an amendment's own causes
abbrev pub unnamed : Draft → ℕ → ℕ → List ℕ → List Fault
unnamed x at kind body = fault 21 at (unamendable x (amendment_of kind body)) ∷ []

module _ {A : Type 0} (x : Draft) (at : ℕ) (body : List ℕ) where
  move-first : (r : Reply A) → unless (move_faults x.sent at body) r
      ≡ unless (own_move_faults x.sent at body) (unless (fault 8 at (any (is_same_move (move_of body)) x.sent.moves) ∷ []) r)
  unfolding unless move_faults own_move_faults body_faults bad_command
  move-first r = by_cases (eqb (move_of body).command 0) (λ t. rw t) (λ f. rw f)

  repeated-first : (r : Reply A) → unless (move_faults x.sent at body ++ late_faults x at) r
      ≡ unless (own_move_faults x.sent at body) (unless (repeated x at body) r)
  repeated-first r =
      let eight = fault 8 at (any (is_same_move (move_of body)) x.sent.moves) in
      unless-append (move_faults x.sent at body) (late_faults x at) r ∙ move-first (unless (late_faults x at) r)
      ∙ ap (unless (own_move_faults x.sent at body)) (sym (unless-append (eight ∷ []) (late_faults x at) r))

  pub own_first : (r : Reply A) (kind : ℕ) → unless (faults_of x at kind body) r
      ≡ unless (own_faults x.sent at kind body) (unless (later_faults x at kind body) r)
  unfolding unless faults_of own_faults later_faults replace_faults own_replace_faults body_faults withdraw_faults own_withdraw_faults
  own_first r kind =
      by_cases (eqb kind 1) (λ a. rw (eqb-true kind 1 a)) (λ a.
      by_cases (eqb kind 2) (λ b. rw (eqb-true kind 2 b) (repeated-first r)) (λ b.
      by_cases (eqb kind 3) (λ c. rw (eqb-true kind 3 c)) (λ c.
      by_cases (eqb kind 4) (λ d. rw (eqb-true kind 4 d)) (λ d.
      by_cases (eqb kind 5) (λ e. rw (eqb-true kind 5 e)) (λ e. rw (a, b, c, d, e))))))

-- what a move that passes its own causes has shown
pub record MoveFits (m : Model) (body : List ℕ) : Type 0 where
  pub size : MoveSize (length body)
  pub room : move_count m < 250
  pub right : bad_move m.modes m.live (move_of body) ≡ false
  pub command-given : byte body 3 ≡ 0 → ⊥
  pub machine-before : 0 < machine_count m

own-fits : (m : Model) (at : ℕ) (body : List ℕ) → Clear (own_move_faults m at body) → MoveFits m body
unfolding own_move_faults body_faults move_of
own-fits m at body c =
    let e : leb 250 (move_count m) ≡ false = search parts in
    let f : eqb (machine_count m) 0 ≡ false = search parts in
    record {
      size = length-fits (length body) c.0;
      room = leb-false _ _ e;
      right = c.1.1.0;
      command-given = eqb-false (byte body 3) 0 c.1.1.1.1.0;
      machine-before = omega (arith, eqb-false (machine_count m) 0 f);
    }

-- and an amendment
pub record AmendmentFits (m : Model) (kind : ℕ) (body : List ℕ) : Type 0 where
  pub is : (kind ≡ 4) ⊎ (kind ≡ 5)
  pub size : kind ≡ 4 → MoveSize (length body)
  pub three : kind ≡ 5 → length body ≡ 3

amendment-fits-by : (m : Model) (at kind : ℕ) (body : List ℕ) → Clear (own_faults m at kind body) → (kind ≡ 4) ⊎ (kind ≡ 5)
    → AmendmentFits m kind body
unfolding own_replace_faults own_withdraw_faults
amendment-fits-by m at kind body c is =
    record {
      is = is;
      size = λ k. length-fits (length body) (rw (own-replace m at kind body k) at c).0;
      three = λ k. eqb-true _ _ (not-false _ (rw (own-withdraw m at kind body k) at c).0);
    }

-- 21 applies where no such move stands, and to a 65th amendment
module _ (x : Draft) (a : Amendment) where
  pub none-stands : any (is_same_move (named a)) x.standing ≡ false → unamendable x a ≡ true
  unfolding unamendable
  none-stands f = rw f

  pub too_many : 64 ≤ x.amended → unamendable x a ≡ true
  unfolding unamendable
  too_many h = rw (le-leb 64 x.amended h) (or-true (not (any (is_same_move (named a)) x.standing)))

  pub stands-to-amend : any (is_same_move (named a)) x.standing ≡ true → x.amended < 64 → unamendable x a ≡ false
  unfolding unamendable
  stands-to-amend t h = rw (t, lt-leb 64 x.amended h)

-- the record at a place
module _ (s : List ℕ) (at : ℕ) (d : Progress) {r : Option Record} {it : Record} {body : List ℕ}
    (e : r ≡ record_at s at) (w : r ≡ Some it) (b : body ≡ body_at s at) where
  -- it ends behind its body
  pub ends-behind : it.start + it.len ≡ at + 4 + length body
  ends-behind =
      let long : length body ≡ it.len =
      ap length (b ∙ sym (body-part s at e w)) ∙ part_length s it.start it.len (whole-within s at e w) in
      omega (arith, whole-starts s at e w)

  -- where it leads if nothing is wrong with it
  abbrev onward : Reply Turn
  onward =
      cond (eqb it.kind 3)
      (unless (fault 3 (it.start + it.len) (ltb (it.start + it.len) (length s)) ∷ []) (given (ended d)))
      (given (more (it.start + it.len) (extended d it.kind at body)))

  turn_is : turn_of s at d (record_at s at)
      ≡ unless (own_faults d.draft.sent at it.kind body) (unless (later_faults d.draft at it.kind body) onward)
  unfolding turn_at
  turn_is = ap (turn_of s at d) (sym e ∙ w) ∙ rw (body-part s at e w, ← b) (own_first d.draft at body onward it.kind)

  -- judged by its own causes
  module _ {j : Result Unit Cause} (found : judged_of j at ≡ unless (own_faults d.draft.sent at it.kind body) fine) where
    pub turn-faulty : {cause : Cause} → j ≡ Err cause → turn_of s at d (record_at s at) ≡ refused (number_of cause) at
    turn-faulty q =
        turn_is
        ∙ refused-anyway (own_faults d.draft.sent at it.kind body) tt _ (sym found ∙ ap (λ x. judged_of x at) q)

    module _ (q : j ≡ Ok tt) where
      clear : Clear (own_faults d.draft.sent at it.kind body)
      clear = given-clear (own_faults d.draft.sent at it.kind body) fine (sym found ∙ ap (λ x. judged_of x at) q)

      turn-later : turn_of s at d (record_at s at) ≡ unless (later_faults d.draft at it.kind body) onward
      turn-later = turn_is ∙ unless-clear (own_faults d.draft.sent at it.kind body) _ clear

      module _ (k : it.kind ≡ 1) where
        pub machine-fits : MachinePasses d.draft.sent body
        machine-fits =
            machine-passes d.draft.sent at body (rw (own-machine d.draft.sent at it.kind body k) at clear)

        pub turn-machine : turn_of s at d (record_at s at) ≡ given (more (it.start + it.len) (with_machine_read d body))
        unfolding unless later_faults
        turn-machine = turn-later ∙ rw (k, reads-machine d at body)

      module _ (k : it.kind ≡ 2) where
        pub move-fits : MoveFits d.draft.sent body
        move-fits = own-fits d.draft.sent at body (rw (own-move d.draft.sent at it.kind body k) at clear)

        pub turn-move : turn_of s at d (record_at s at)
            ≡ unless (repeated d.draft at body) (given (more (it.start + it.len) (with_move_read d at body)))
        unfolding later_faults
        turn-move = turn-later ∙ rw (k, reads-move d at body)

      pub turn_end : it.kind ≡ 3 → turn_of s at d (record_at s at)
          ≡ unless (fault 3 (it.start + it.len) (ltb (it.start + it.len) (length s)) ∷ []) (given (ended d))
      unfolding unless later_faults
      turn_end k = turn-later ∙ rw k

      -- a record of no other it.kind is an amendment
      module _ (not-machine : it.kind ≡ 1 → ⊥) (not-Move : it.kind ≡ 2 → ⊥) (not_end : it.kind ≡ 3 → ⊥) where
        amends : (it.kind ≡ 4) ⊎ (it.kind ≡ 5)
        amends =
            by_cases (eqb it.kind 4) (λ t. inl (eqb-true it.kind 4 t)) (λ f.
            by_cases (eqb it.kind 5) (λ t. inr (eqb-true it.kind 5 t)) (λ g.
            absurd (true-false refl
            (rw (own-unknown d.draft.sent at it.kind body not-machine not-Move not_end (eqb-false it.kind 4 f)
            (eqb-false it.kind 5 g)) at clear).0)))

        pub amendment-fits : AmendmentFits d.draft.sent it.kind body
        amendment-fits = amendment-fits-by d.draft.sent at it.kind body clear amends

        pub turn-amendment : turn_of s at d (record_at s at)
            ≡ unless (unnamed d.draft at it.kind body)
            (given (more (it.start + it.len) (amended_by d at (amendment_of it.kind body))))
        unfolding later_faults
        turn-amendment =
            let a = reads-amendment d at body it.kind amends in
            turn-later ∙ rw a (⊎_elim (λ k. rw k) (λ k. rw k) amends)
