-- What passes the causes 5 to 8 is a valid machine or a valid move of the model.
-- Assumes nothing.
use Prim.Native.Nat.{ℕ, suc, ◌-◌, ◌%◌, ◌≤◌, ◌<◌}
use mathlib.Core.Path.{◌≡◌, sym}
use mathlib.Core.List.{List}
use mathlib.Core.Bool.{Bool, true, false, not, ◌&&◌}
use native.Mathlib.Numerals.{sub-one}
use native.Mathlib.Omega.{arith}
use borrow.Author.Tests.{ltb-false, leb-true, leb-false, eqb-true, eqb-false, not-false, lt-ltb, eq-eqb}
use lib.Dec.{eqb, ltb, leb}
use lib.ListN.{length, get_or-eq_default}
use Rattle.common.specs.Lists.{any}
use Rattle.common.proofs.Bools.{by_cases, true-false, and_intro, or-false-left, or-false-right}
use Rattle.common.proofs.Lists.{any_none}
use Rattle.common.proofs.Members.{up_to-mem, mem-get_or}
use Rattle.common.proofs.Reply.{Clear}
use Rattle.sheet.specs.Record.{byte}
use Rattle.sheet.specs.Model.{Move, Model, absent_move, machine_count, move_count, mode_count, guard_at, move_of, is_same_move}
use Rattle.sheet.specs.Faults.{wrong_move_length, bad_machine, bad_move, bad_guard, bad_guards, bad_command}
use Rattle.sheet.specs.Amend.{Amendment, named, amendment_of, Draft}
use Rattle.sheet.specs.Faults.{machine_faults, move_faults, unamendable, replace_faults, withdraw_faults}
use Rattle.sheet.specs.Valid.{ValidGuard, ValidMove, ValidMachine}
use Rattle.sheet.specs.Faulty.{ModesRight, NeedsRight, CommandRight}
use Rattle.sheet.proofs.Guards.{guard-count}

pub ruleset parts = (or-false-left, or-false-right)

pub machine-fits : (modes live : ℕ) → bad_machine modes live ≡ false → ValidMachine modes live
unfolding bad_machine
machine-fits modes live h =
    let a : eqb modes 0 ≡ false = search parts in
    let b : ltb 8 modes ≡ false = search parts in
    record {
      has-mode = omega (arith, eqb-false modes 0 a);
      few-modes = omega (arith, ltb-false);
      has-live = eqb-false _ _ (search parts);
      within = search parts;
    }

-- a machine that has a mode is present
pub has-modes : (m : Model) (i : ℕ) → 0 < mode_count m i → i < machine_count m
has-modes m i h =
    by_cases (leb (machine_count m) i)
    (λ t. omega (arith, get_or-eq_default m.modes 0 (leb-true (machine_count m) i t)))
    (λ f. leb-false _ _ f)

module _ (m : Model) (v : Move) where
  pub modes-fit : bad_move m.modes m.live v ≡ false → ModesRight m v
  unfolding bad_move
  modes-fit fine =
      let a : leb (mode_count m v.machine) v.from ≡ false = search parts in
      let b : leb (mode_count m v.machine) v.to ≡ false = search parts in
      record {
        present = has-modes m _ (omega (arith, leb-false));
        from-present = leb-false _ _ a;
        to-present = leb-false _ _ b;
        moves-on = eqb-false _ _ (search parts);
        from-live = not-false _ (search parts);
        to-live = not-false _ (search parts);
      }

  module _ (met : bad_guards m.modes v ≡ false) where
    pub no-guard-bad : (n : ℕ) → n < length v.guards → bad_guard m.modes v n ≡ false
    unfolding bad_guards
    no-guard-bad n h = any_none (bad_guard m.modes v) met (up_to-mem h)

    pub guard-fits : (n : ℕ) → n < length v.guards → ValidGuard m v (guard_at v n)
    unfolding bad_guard
    guard-fits n h =
        let b = no-guard-bad n h in
        let a : eqb (mode_count m (guard_at v n).machine) 0 ≡ false = search parts in
        record {
          present = has-modes m _ (omega (arith, eqb-false (mode_count m (guard_at v n).machine) 0 a));
          foreign = eqb-false _ _ (search parts);
          nonempty = eqb-false _ _ (search parts);
          within = search parts;
        }

    pub guard-rises : (n : ℕ) → suc n < length v.guards → (guard_at v n).machine < (guard_at v (suc n)).machine
    unfolding bad_guard
    guard-rises n h =
        let b = no-guard-bad (suc n) h in
        let above : Bool = leb (guard_at v (suc n)).machine (guard_at v (suc n - 1)).machine in
        let a : ltb 0 (suc n) && above ≡ false = search parts in
        leb-false _ _ (rw (lt-ltb 0 (suc n) (omega arith), sub-one) at a)

    pub needs-fit : NeedsRight m v
    needs-fit = record { each = guard-fits; rise = guard-rises }

  pub command-fits : bad_command m.moves v ≡ false → CommandRight m v
  unfolding bad_command is_same_move
  command-fits fine =
      record {
        some = eqb-false _ _ (search parts);
        new = λ w h a b c.
            true-false
            (and_intro (and_intro (eq-eqb _ _ (sym a)) (eq-eqb _ _ (sym b))) (eq-eqb _ _ (sym c)))
            (any_none (is_same_move v) (or-false-right (eqb v.command 0) _ fine) (mem-get_or m.moves w absent_move h));
      }

  pub move-fits : length v.guards ≤ 8 → ModesRight m v → NeedsRight m v → (v.command ≡ 0 → ⊥) → ValidMove m v
  move-fits few modes needs given =
      record {
        present = modes.present;
        from-present = modes.from-present;
        to-present = modes.to-present;
        moves-on = modes.moves-on;
        from-live = modes.from-live;
        to-live = modes.to-live;
        command-given = given;
        few-guards = few;
        guards-valid = needs.each;
        guards-rise = needs.rise;
      }

-- what a machine record that passes has shown
pub record MachinePasses (m : Model) (body : List ℕ) : Type 0 where
  pub two_are_bytes : length body ≡ 2
  pub no-move-yet : move_count m ≡ 0
  pub room : machine_count m < 32
  pub valid : ValidMachine (byte body 0) (byte body 1)

-- the length of a move's body
pub record MoveSize (n : ℕ) : Type 0 where
  pub long : 4 ≤ n
  pub short : n ≤ 20
  pub even : n % 2 ≡ 0

pub length-fits : (n : ℕ) → wrong_move_length n ≡ false → MoveSize n
unfolding wrong_move_length
length-fits n h =
    let a : ltb n 4 ≡ false = search parts in
    let b : ltb 20 n ≡ false = search parts in
    let e : eqb (n % 2) 1 ≡ false = search parts in
    record { long = ltb-false _ _ a; short = ltb-false _ _ b; even = omega (arith, eqb-false (n % 2) 1 e) }

-- and a move record
pub record MovePasses (m : Model) (body : List ℕ) : Type 0 where
  pub size : MoveSize (length body)
  pub has-machine : 0 < machine_count m
  pub room : move_count m < 250
  pub valid : ValidMove m (move_of body)
  pub command : CommandRight m (move_of body)

module _ (m : Model) (at : ℕ) (body : List ℕ) where
  pub machine-passes : Clear (machine_faults m at body) → MachinePasses m body
  unfolding machine_faults
  machine-passes c =
      let a : ltb 0 (move_count m) ≡ false = search parts in
      let b : leb 32 (machine_count m) ≡ false = search parts in
      record {
        two_are_bytes = eqb-true _ _ (not-false _ c.0);
        no-move-yet = omega (arith, ltb-false);
        room = leb-false _ _ b;
        valid = machine-fits _ _ c.1.1.0;
      }

  pub move-passes : Clear (move_faults m at body) → MovePasses m body
  unfolding move_faults
  move-passes c =
      let n = length-fits (length body) c.0 in
      let f : eqb (machine_count m) 0 ≡ false = search parts in
      let g : leb 250 (move_count m) ≡ false = search parts in
      let command = command-fits m (move_of body) c.1.1.1.1.0 in
      record {
        size = n;
        has-machine = omega (arith, eqb-false (machine_count m) 0 f);
        room = leb-false _ _ g;
        valid =
            move-fits m (move_of body) (omega (arith, guard-count body, n.short))
            (modes-fit m _ c.1.1.0) (needs-fit m _ c.1.1.1.0) command.some;
        command = command;
      }

-- an amendment record that passes: such a move stands, and a 64th amendment is not behind it
pub record AmendmentPasses (x : Draft) (kind : ℕ) (body : List ℕ) : Type 0 where
  pub size : (kind ≡ 4 → MoveSize (length body)) × (kind ≡ 5 → length body ≡ 3)
  pub valid : kind ≡ 4 → ValidMove x.sent (move_of body)
  pub some : any (is_same_move (named (amendment_of kind body))) x.standing ≡ true
  pub room : x.amended < 64

pub amendable : (x : Draft) (a : Amendment) → unamendable x a ≡ false
    → (any (is_same_move (named a)) x.standing ≡ true) × (x.amended < 64)
unfolding unamendable
amendable x a h =
    let some : Bool = any (is_same_move (named a)) x.standing in
    (not-false some (or-false-left (not some) _ h), leb-false _ _ (or-false-right (not some) _ h))

module _ (x : Draft) (at : ℕ) (body : List ℕ) where
  pub replace-passes : Clear (replace_faults x at body) → AmendmentPasses x 4 body
  unfolding replace_faults
  replace-passes c =
      let n = length-fits (length body) c.0 in
      let a = amendable x (amendment_of 4 body) c.1.1.1.1.0 in
      record {
        size = (λ k. n, λ k. absurd (let f : ⊥ = omega arith in f));
        valid = λ k.
            move-fits x.sent (move_of body) (omega (arith, guard-count body, n.short))
            (modes-fit x.sent _ c.1.0) (needs-fit x.sent _ c.1.1.0) (eqb-false _ _ c.1.1.1.0);
        some = a.0;
        room = a.1;
      }

  pub withdraw-passes : Clear (withdraw_faults x at body) → AmendmentPasses x 5 body
  unfolding withdraw_faults
  withdraw-passes c =
      let a = amendable x (amendment_of 5 body) c.1.0 in
      record {
        size = (λ k. absurd (let f : ⊥ = omega arith in f), λ k. eqb-true _ _ (not-false _ c.0));
        valid = λ k. absurd (let f : ⊥ = omega arith in f);
        some = a.0;
        room = a.1;
      }
