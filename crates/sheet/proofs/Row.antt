-- The causes 2, 4 to 8 and 21 of a whole record in one row, whatever its kind.
-- Assumes nothing.
use Prim.Native.Nat.{ℕ}
use mathlib.Core.Path.{◌≡◌}
use mathlib.Core.List.{List, [], ◌∷◌}
use mathlib.Core.Bool.{Bool, true, false, cond, not, ◌&&◌, ◌||◌}
use borrow.Author.Tests.{eqb-true}
use lib.Dec.{eqb, ltb, leb}
use lib.ListN.{length}
use Rattle.common.specs.Reply.{Reply, Fault, fault, unless}
use Rattle.common.proofs.Bools.{by_cases}
use Rattle.sheet.specs.Record.{byte}
use Rattle.sheet.specs.Model.{Move, Model, machine_count, move_count, move_of}
use Rattle.sheet.specs.Amend.{amendment_of, Draft}
use Rattle.sheet.specs.Faults.{wrong_move_length, bad_machine, bad_move, bad_guards, bad_command, unamendable}
use Rattle.sheet.specs.Faults.{machine_faults, move_faults, end_faults, replace_faults, withdraw_faults, late_faults}
use Rattle.sheet.specs.Faults.{faults_of}

-- 2 and 4, by the kind
unfoldable pub unknown_kind : ℕ → ℕ → Bool
unknown_kind kind len =
    cond (eqb kind 1) (not (eqb len 2))
    (cond (eqb kind 2) (wrong_move_length len)
    (cond (eqb kind 3) (not (eqb len 0))
    (cond (eqb kind 4) (wrong_move_length len)
    (cond (eqb kind 5) (not (eqb len 3)) true))))

unfoldable pub out_of_place : Model → ℕ → Bool
out_of_place m kind =
    cond (eqb kind 1) (ltb 0 (move_count m) || leb 32 (machine_count m))
    (cond (eqb kind 2) (eqb (machine_count m) 0 || leb 250 (move_count m))
    (cond (eqb kind 3) (eqb (machine_count m) 0) (not (eqb kind 4 || eqb kind 5))))

-- 8, of a move's body, and 21
unfoldable pub bad_command_of : Model → ℕ → Move → Bool
bad_command_of m kind v = cond (eqb kind 2) (bad_command m.moves v) (eqb v.command 0)

unfoldable pub barred : Draft → ℕ → List ℕ → Bool
barred x kind body =
    cond (eqb kind 2) (ltb 0 x.amended) ((eqb kind 4 || eqb kind 5) && unamendable x (amendment_of kind body))

-- all seven; those of another kind are silent
abbrev pub row : Draft → ℕ → ℕ → List ℕ → List Fault
row x at kind body =
    fault 2 at (unknown_kind kind (length body))
    ∷ fault 4 at (out_of_place x.sent kind)
    ∷ fault 5 at (eqb kind 1 && bad_machine (byte body 0) (byte body 1))
    ∷ fault 6 at ((eqb kind 2 || eqb kind 4) && bad_move x.sent.modes x.sent.live (move_of body))
    ∷ fault 7 at ((eqb kind 2 || eqb kind 4) && bad_guards x.sent.modes (move_of body))
    ∷ fault 8 at ((eqb kind 2 || eqb kind 4) && bad_command_of x.sent kind (move_of body))
    ∷ fault 21 at (barred x kind body)
    ∷ []

-- a kind is one of 1 to 5 or another
pub by_kind : {C : Type 0} (kind : ℕ)
    → (kind ≡ 1 → C) → (kind ≡ 2 → C) → (kind ≡ 3 → C) → (kind ≡ 4 → C) → (kind ≡ 5 → C)
    → (eqb kind 1 ≡ false → eqb kind 2 ≡ false → eqb kind 3 ≡ false → eqb kind 4 ≡ false → eqb kind 5 ≡ false → C) → C
by_kind kind one two three four five other =
    by_cases (eqb kind 1) (λ t. one (eqb-true _ _ t)) (λ a.
    by_cases (eqb kind 2) (λ t. two (eqb-true _ _ t)) (λ b.
    by_cases (eqb kind 3) (λ t. three (eqb-true _ _ t)) (λ c.
    by_cases (eqb kind 4) (λ t. four (eqb-true _ _ t)) (λ d.
    by_cases (eqb kind 5) (λ t. five (eqb-true _ _ t)) (λ e. other a b c d e)))))

pub same_row : (x : Draft) (at kind : ℕ) (body : List ℕ) {A : Type 0} (r : Reply A)
    → unless (faults_of x at kind body) r ≡ unless (row x at kind body) r
unfolding unless faults_of machine_faults move_faults end_faults replace_faults withdraw_faults late_faults
    unknown_kind out_of_place bad_command_of barred
same_row x at kind body r =
    by_kind kind (λ k. rw k) (λ k. rw k) (λ k. rw k) (λ k. rw k) (λ k. rw k) (λ a b c d e. rw (a, b, c, d, e))
