-- A sheet in which each machine needs the machines that it wants, for any such relation on up to 32 machines.
-- Assumes nothing.
use Prim.Native.Nat.{ℕ, suc, ◌+◌, ◌*◌, ◌/◌, ◌%◌, ◌≤◌, ◌<◌}
use mathlib.Core.Path.{◌≡◌, refl, sym, ap, ap₂, subst, ◌∙◌}
use mathlib.Core.List.Memᴰ
use mathlib.Core.List.{List, map, Memᴰ}
use mathlib.Core.Bool.{Bool, true, false, ◌&&◌}
use native.Mathlib.Omega.{arith}
use borrow.Author.Tests.{ltb-true, lt-ltb}
use lib.Dec.{ltb}
use lib.ListN.{length, get_or, replicate, length-replicate, get_or-replicate, length-map}
use Rattle.common.specs.Bits.{bit, beyond}
use Rattle.common.specs.Lists.{up_to, filter}
use Rattle.common.proofs.Bools.{true-false, and_intro, and_left, and_right}
use Rattle.common.proofs.Members.{mem-get_or, up_to-mem, length-up_to, length-map-up_to, get_or-map, get_or-map-up_to}
use Rattle.common.proofs.Lists.{filter-mem, filter-holds, length-filter}
use Rattle.sheet.specs.Model.{Guard, Move, Model, guard, absent_guard, absent_move, machine_count, move_count, mode_count, move_at}
use Rattle.sheet.specs.Valid.{ValidGuard, ValidMove, ValidMachine, Valid}
use Rattle.plan.specs.Needs.{Needs}
use Rattle.plan.proofs.ModeDigits.{Rising, filter-rises}

-- a need on machine 8 * c + t: it is in mode 0
abbrev on_machine : ℕ → ℕ → Guard
on_machine c t = guard (8 * c + t) 1

module _ (wants : ℕ → ℕ → Bool) (n : ℕ) where
  -- machine i wants machine 8 * c + t
  abbrev wants_at : ℕ → ℕ → ℕ → Bool
  wants_at i c t = ltb (8 * c + t) n && wants i (8 * c + t)

  -- those of the eight machines from 8 * c on that machine i wants
  unfoldable pub wanted : ℕ → ℕ → List ℕ
  wanted i c = filter (wants_at i c) (up_to 8)

  -- machine i goes from mode 0 to mode 1, where they are in mode 0
  abbrev wanting_move : ℕ → ℕ → Move
  wanting_move i c =
      record { machine = i; from = 0; to = 1; command = 1 + c; guards = map (on_machine c) (wanted i c) }

  abbrev numbered_move : ℕ → Move
  numbered_move v = wanting_move (v / 4) (v % 4)

  -- n machines of two modes, each with four such moves
  unfoldable pub wanting : Model
  wanting =
      record {
        modes = replicate n 2;
        live = replicate n 3;
        moves = map numbered_move (up_to (4 * n));
      }

  pub wanting-machines : machine_count wanting ≡ n
  unfolding wanting
  wanting-machines = length-replicate n 2

  wanting-moves : move_count wanting ≡ 4 * n
  unfolding wanting
  wanting-moves = length-map-up_to _ (4 * n)

  wanting-at : (v : ℕ) → v < move_count wanting → move_at wanting v ≡ numbered_move v
  unfolding wanting
  wanting-at v h = get_or-map-up_to _ absent_move (omega (arith, wanting-moves))

  pub wanting-commands : (v : ℕ) → v < move_count wanting → (move_at wanting v).command < 256
  wanting-commands v h = rw (wanting-at v h) (omega arith)

  -- What it needs

  wanted-in : {t : ℕ} (i c : ℕ) → Memᴰ t (wanted i c) → (8 * c + t < n) × (wants i (8 * c + t) ≡ true)
  unfolding wanted
  wanted-in {t} i c l =
      let both = filter-holds (wants_at i c) (up_to 8) l in
      (ltb-true _ _ (and_left _ _ both), and_right (ltb (8 * c + t) n) _ both)

  pub needs-wanted : {i j : ℕ} → Needs wanting i j → wants i j ≡ true
  unfolding wanting
  needs-wanted {i} {j} need =
      let (v, v-in, e) = Memᴰ.of_map numbered_move (up_to (4 * n)) need.listed in
      let among = subst (λ w. Memᴰ need.need w.guards) (sym e) need.among in
      let (t, t-in, q) = Memᴰ.of_map (on_machine (v % 4)) (wanted (v / 4) (v % 4)) among in
      let own : v / 4 ≡ i = ap (λ w. w.machine) e ∙ need.its_own in
      let on : 8 * (v % 4) + t ≡ j = ap (λ g. g.machine) q ∙ need.on in
      ap₂ wants (sym own) (sym on) ∙ (wanted-in (v / 4) (v % 4) t-in).1

  module _ (few : n ≤ 32) where
    pub wanted-needs : (i j : ℕ) → i < n → j < n → wants i j ≡ true → Needs wanting i j
    unfolding wanting wanted
    wanted-needs i j hi hj t =
        let v = 4 * i + j / 8 in
        let own : v / 4 ≡ i = omega arith in
        let part : v % 4 ≡ j / 8 = omega arith in
        let at : 8 * (j / 8) + j % 8 ≡ j = omega arith in
        let below : v < 4 * n = omega arith in
        let listed = Memᴰ.map numbered_move (up_to-mem below) in
        let here = filter-mem (wants_at i (j / 8)) (up_to-mem {n = 8} (omega arith))
        (and_intro (lt-ltb _ n (rw at hj)) (ap (wants i) at ∙ t)) in
        record {
          move = wanting_move i (j / 8);
          listed = Memᴰ.cast (ap₂ wanting_move (sym own) (sym part)) listed;
          its_own = refl;
          need = on_machine (j / 8) (j % 8);
          among = Memᴰ.map (on_machine (j / 8)) here;
          on = at;
        }

    -- It is valid where no machine wants itself

    wanted-few : (i c : ℕ) → length (wanted i c) ≤ 8
    unfolding wanted
    wanted-few i c = omega (arith, length-filter (wants_at i c) (up_to 8), length-up_to 8)

    guard-at : (i c k : ℕ) → k < length (wanted i c)
        → get_or (map (on_machine c) (wanted i c)) k absent_guard ≡ on_machine c (get_or (wanted i c) k 0)
    guard-at i c k h = get_or-map (on_machine c) (wanted i c) k 0 absent_guard h

    wanted-rise : (i c : ℕ) → Rising (wanted i c)
    unfolding wanted
    wanted-rise i c = filter-rises (wants_at i c) 8

    machine-valid : ValidMachine 2 3
    unfolding beyond
    machine-valid =
        record { has-mode = omega arith; few-modes = omega arith; has-live = λ e. omega arith; within = refl }

    module _ (foreign : (i : ℕ) → i < n → wants i i ≡ false) where
      guard-valid : {t : ℕ} (i c : ℕ) → i < n → Memᴰ t (wanted i c)
          → ValidGuard wanting (wanting_move i c) (on_machine c t)
      unfolding wanting beyond
      guard-valid {t} i c h l =
          let (below, wants-it) = wanted-in i c l in
          record {
            present = rw length-replicate below;
            foreign = λ e. true-false (rw e at wants-it) (foreign i h);
            nonempty = λ e. omega arith;
            within = rw (get_or-replicate {A = ℕ} n (8 * c + t) 2 0 below);
          }

      move-valid : (i c : ℕ) → i < n → ValidMove wanting (wanting_move i c)
      unfolding wanting bit
      move-valid i c h =
          let modes = get_or-replicate {A = ℕ} n i 2 0 h in
          let live = get_or-replicate {A = ℕ} n i 3 0 h in
          let ts = wanted i c in
          record {
            present = rw length-replicate h;
            from-present = omega arith;
            to-present = omega arith;
            moves-on = λ e. omega arith;
            from-live = rw live;
            to-live = rw live;
            command-given = λ e. omega arith;
            few-guards = rw length-map (wanted-few i c);
            guards-valid = λ k l.
                let b : k < length ts = rw length-map at l in
                rw (guard-at i c k b) (guard-valid i c h (mem-get_or ts k 0 b));
            guards-rise = λ k l.
                let b : suc k < length ts = rw length-map at l in
                rw (guard-at i c k (omega arith), guard-at i c (suc k) b) (omega (arith, wanted-rise i c k b));
          }

      same_length : length wanting.live ≡ machine_count wanting
      unfolding wanting
      same_length = length-replicate n 3 ∙ sym (length-replicate n 2)

      machines-valid : (i : ℕ) → i < machine_count wanting
          → ValidMachine (mode_count wanting i) (get_or wanting.live i 0)
      unfolding wanting
      machines-valid i h =
          let b : i < n = omega (arith, wanting-machines) in
          rw (get_or-replicate {A = ℕ} n i 2 0 b, get_or-replicate {A = ℕ} n i 3 0 b) machine-valid

      pub wanting-valid : Valid wanting
      wanting-valid =
          record {
            few-machines = rw wanting-machines few;
            same_length = same_length;
            few-moves = omega (arith, wanting-moves);
            machines-valid = machines-valid;
            moves-valid = λ v h. rw (wanting-at v h) (move-valid (v / 4) (v % 4) (omega (arith, wanting-moves)));
            moves-distinct = λ v w hv hw same-machine same_from same-command.
                let a : v / 4 ≡ w / 4 = rw (wanting-at v hv, wanting-at w hw) at same-machine in
                let b : 1 + v % 4 ≡ 1 + w % 4 = rw (wanting-at v hv, wanting-at w hw) at same-command in
                omega arith;
          }
