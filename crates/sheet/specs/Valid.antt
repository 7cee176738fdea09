-- What a sheet that passes 1 to 8 and 21 guarantees. Upper layers rest on these facts and never on the parse itself.
use Rattle.std.specs.Prelude.{ℕ, suc, ◌≤◌, ◌<◌, ◌≡◌, true, false, length, get_or}
use Rattle.common.specs.Bits.{beyond}
use Rattle.sheet.specs.Model.{Guard, Move, Model, machine_count, move_count, mode_count, is_live_mode, move_at, guard_at}

pub record ValidGuard (m : Model) (v : Move) (g : Guard) : Type 0 where
  pub present : g.machine < machine_count m
  pub foreign : g.machine ≡ v.machine → ⊥
  pub nonempty : g.mask ≡ 0 → ⊥
  pub within : beyond (mode_count m g.machine) g.mask ≡ false

pub record ValidMove (m : Model) (v : Move) : Type 0 where
  pub present : v.machine < machine_count m
  pub from-present : v.from < mode_count m v.machine
  pub to-present : v.to < mode_count m v.machine
  pub moves-on : v.from ≡ v.to → ⊥
  pub from-live : is_live_mode m v.machine v.from ≡ true
  pub to-live : is_live_mode m v.machine v.to ≡ true
  pub command-given : v.command ≡ 0 → ⊥
  pub few-guards : length v.guards ≤ 8
  pub guards-valid : (n : ℕ) → n < length v.guards → ValidGuard m v (guard_at v n)
  pub guards-rise : (n : ℕ) → suc n < length v.guards → (guard_at v n).machine < (guard_at v (suc n)).machine

pub record ValidMachine (modes live : ℕ) : Type 0 where
  pub has-mode : 0 < modes
  pub few-modes : modes ≤ 8
  pub has-live : live ≡ 0 → ⊥
  pub within : beyond modes live ≡ false

pub record Valid (m : Model) : Type 0 where
  pub few-machines : machine_count m ≤ 32
  pub same_length : length m.live ≡ machine_count m
  pub few-moves : move_count m ≤ 250
  pub machines-valid : (i : ℕ) → i < machine_count m → ValidMachine (mode_count m i) (get_or m.live i 0)
  pub moves-valid : (v : ℕ) → v < move_count m → ValidMove m (move_at m v)
  -- no two moves have the same machine, from mode and command
  pub moves-distinct : (v w : ℕ) → v < move_count m → w < move_count m → (move_at m v).machine ≡ (move_at m w).machine
      → (move_at m v).from ≡ (move_at m w).from → (move_at m v).command ≡ (move_at m w).command → v ≡ w
