-- A valid machine and a valid move of the model pass the causes 2 and 4 to 8: the other way round of `Fits`.
-- Assumes nothing.
use Prim.Native.Nat.{ℕ, zero, suc, ◌-◌, ◌<◌}
use mathlib.Core.Path.{◌≡◌, refl, sym}
use mathlib.Core.List.{List}
use mathlib.Core.Bool.{false, ◌&&◌}
use native.Mathlib.Numerals.{sub-one}
use native.Mathlib.Omega.{arith}
use borrow.Author.Tests.{lt-leb, le-ltb, eq-eqb, ne_eqb, lt-ltb}
use lib.Dec.{ltb, leb}
use lib.ListN.{length}
use Rattle.common.specs.Lists.{up_to}
use Rattle.common.proofs.Bools.{or-false-intro, not-of-true, false-of-not-true}
use Rattle.common.proofs.Lists.{any-fails}
use Rattle.common.proofs.Members.{up_to-below, mem_index}
use Rattle.common.proofs.Reply.{Clear}
use Rattle.sheet.specs.Model.{Move, Model, absent_move, machine_count, move_count, mode_count, move_at, guard_at, is_same_move}
use Rattle.sheet.specs.Faults.{wrong_move_length, bad_machine, bad_move, bad_guard, bad_guards, bad_command}
use Rattle.sheet.specs.Amend.{amendment_of, Draft}
use Rattle.sheet.specs.Faults.{machine_faults, move_faults, end_faults, unamendable, replace_faults, withdraw_faults}
use Rattle.sheet.specs.Valid.{ValidMove, ValidMachine}
use Rattle.sheet.specs.Faulty.{ModesRight, NeedsRight, CommandRight}
use Rattle.sheet.proofs.Same.{same-fields}
use Rattle.sheet.proofs.Fits.{MachinePasses, MoveSize, MovePasses, AmendmentPasses}

pub machine-not-bad : (modes live : ℕ) → ValidMachine modes live → bad_machine modes live ≡ false
unfolding bad_machine
machine-not-bad modes live h =
    rw (
      ne_eqb modes 0 (λ e. omega (arith, h.has-mode)),
      le-ltb 8 modes h.few-modes,
      ne_eqb live 0 h.has-live,
      h.within,
    )

module _ (m : Model) (v : Move) where
  pub modes-pass : ModesRight m v → bad_move m.modes m.live v ≡ false
  unfolding bad_move
  modes-pass h =
      rw (
        lt-leb (mode_count m v.machine) v.from h.from-present,
        lt-leb (mode_count m v.machine) v.to h.to-present,
        ne_eqb v.from v.to h.moves-on,
        h.from-live,
        h.to-live,
      )

  -- where each machine has a mode
  module _ (some : (i : ℕ) → i < machine_count m → 0 < mode_count m i) (h : NeedsRight m v) where
    -- above the need before, where there is one
    pub guard-not-falling : (n : ℕ) → n < length v.guards
        → ltb 0 n && leb (guard_at v n).machine (guard_at v (n - 1)).machine ≡ false
    guard-not-falling zero k = rw (le-ltb 0 0 (omega arith))
    guard-not-falling (suc n) k = rw (lt-ltb 0 (suc n) (omega arith), sub-one) (lt-leb _ _ (h.rise n k))

    pub guard-not-bad : (n : ℕ) → n < length v.guards → bad_guard m.modes v n ≡ false
    unfolding bad_guard
    guard-not-bad n k =
        let g = h.each n k in
        rw (
          ne_eqb (mode_count m (guard_at v n).machine) 0 (λ e. omega (arith, some (guard_at v n).machine g.present)),
          ne_eqb (guard_at v n).machine v.machine g.foreign,
          guard-not-falling n k,
          ne_eqb (guard_at v n).mask 0 g.nonempty,
          g.within,
        )

    pub needs-pass : bad_guards m.modes v ≡ false
    unfolding bad_guards
    needs-pass =
        any-fails (bad_guard m.modes v) (up_to (length v.guards))
        (λ n k. guard-not-bad n (up_to-below (length v.guards) k))

  pub command-passes : CommandRight m v → bad_command m.moves v ≡ false
  unfolding bad_command
  command-passes h =
      or-false-intro (ne_eqb _ 0 h.some)
      (any-fails (is_same_move v) m.moves
      (λ w l.
      let (j, below, e) = mem_index absent_move l in
      false-of-not-true
      (λ t. let f = same-fields v (move_at m j) (rw e t) in h.new j below (sym f.0) (sym f.1) (sym f.2))))

valid-modes : {m : Model} {v : Move} → ValidMove m v → ModesRight m v
valid-modes h =
    record {
      present = h.present;
      from-present = h.from-present;
      to-present = h.to-present;
      moves-on = h.moves-on;
      from-live = h.from-live;
      to-live = h.to-live;
    }

pub length-not-wrong : (n : ℕ) → MoveSize n → wrong_move_length n ≡ false
unfolding wrong_move_length
length-not-wrong n h = rw (le-ltb n 4 h.long, le-ltb 20 n h.short, h.even)

module _ (m : Model) (at : ℕ) (body : List ℕ) where
  pub machine-clear : MachinePasses m body → Clear (machine_faults m at body)
  unfolding machine_faults
  machine-clear p =
      let a = not-of-true (eq-eqb _ 2 p.two_are_bytes) in
      let early = le-ltb 0 (move_count m) (omega (arith, p.no-move-yet)) in
      let b = or-false-intro early (lt-leb 32 (machine_count m) p.room) in
      (a, (b, (machine-not-bad _ _ p.valid, tt)))

  pub move-clear : ((i : ℕ) → i < machine_count m → 0 < mode_count m i) → MovePasses m body → Clear (move_faults m at body)
  unfolding move_faults
  move-clear some p =
      let v = p.valid in
      let a = length-not-wrong (length body) p.size in
      let present = ne_eqb (machine_count m) 0 (λ e. omega (arith, p.has-machine)) in
      let b = or-false-intro present (lt-leb 250 (move_count m) p.room) in
      let modes = modes-pass m _ (valid-modes v) in
      let needs = needs-pass m _ some (record { each = v.guards-valid; rise = v.guards-rise }) in
      (a, (b, (modes, (needs, (command-passes m _ p.command, tt)))))

  pub end-clear : length body ≡ 0 → 0 < machine_count m → Clear (end_faults m at body)
  unfolding end_faults
  end-clear e h = (not-of-true (eq-eqb _ 0 e), (ne_eqb (machine_count m) 0 (λ z. omega (arith, h)), tt))

-- an amendment that passes
module _ (x : Draft) (at : ℕ) (body : List ℕ) where
  still-amendable : {kind : ℕ} → AmendmentPasses x kind body → unamendable x (amendment_of kind body) ≡ false
  unfolding unamendable
  still-amendable p = or-false-intro (not-of-true p.some) (lt-leb 64 x.amended p.room)

  pub replace-clear : ((i : ℕ) → i < machine_count x.sent → 0 < mode_count x.sent i) → AmendmentPasses x 4 body
      → Clear (replace_faults x at body)
  unfolding replace_faults
  replace-clear some p =
      let v = p.valid refl in
      let a = length-not-wrong (length body) (p.size.0 refl) in
      let modes = modes-pass x.sent _ (valid-modes v) in
      let needs = needs-pass x.sent _ some (record { each = v.guards-valid; rise = v.guards-rise }) in
      (a, (modes, (needs, (ne_eqb _ 0 v.command-given, (still-amendable p, tt)))))

  pub withdraw-clear : AmendmentPasses x 5 body → Clear (withdraw_faults x at body)
  unfolding withdraw_faults
  withdraw-clear p = (not-of-true (eq-eqb _ 3 (p.size.1 refl)), (still-amendable p, tt))
