-- One more machine or move keeps a model valid.
-- Assumes nothing.
use Prim.Native.Nat.{ℕ, ◌<◌}
use mathlib.Core.Path.{◌≡◌, refl, sym}
use mathlib.Core.List.{List, [], ◌∷◌, ◌++◌}
use native.Mathlib.Omega.{arith}
use native.Mathlib.Nat.{not-suc-le-zero}
use lib.ListN.{get_or, get_or-append}
use lib.Seq.{get_or_at}
use Rattle.common.proofs.Snoc.{length-snoc, snoc-each}
use Rattle.sheet.specs.Model.{Guard, Move, Model, empty_model, absent_move, machine_count, move_count, move_at}
use Rattle.sheet.specs.Model.{with_machine, with_move, with_moves}
use Rattle.sheet.specs.Valid.{ValidGuard, ValidMove, ValidMachine, Valid}
use Rattle.sheet.specs.Faulty.{CommandRight}

pub valid-empty : Valid empty_model
valid-empty =
    record {
      few-machines = omega arith;
      same_length = refl;
      few-moves = omega arith;
      machines-valid = λ i h. absurd (not-suc-le-zero h);
      moves-valid = λ v h. absurd (not-suc-le-zero h);
      moves-distinct = λ v w h. absurd (not-suc-le-zero h);
    }

-- one more machine, before the moves
module _ (m : Model) (a b : ℕ) where
  pub with-machine : Valid m → move_count m ≡ 0 → machine_count m < 32 → ValidMachine a b → Valid (with_machine m a b)
  unfolding with_machine
  with-machine ok early room fits =
      let e = ok.same_length in
      record {
        few-machines = omega (arith, length-snoc m.modes a);
        same_length = omega (arith, length-snoc m.modes a, length-snoc m.live b);
        few-moves = ok.few-moves;
        machines-valid =
            snoc-each m.modes a 0 (λ i y. ValidMachine y (get_or (m.live ++ (b ∷ [])) i 0))
            (λ i h. rw (get_or-append m.live (b ∷ []) 0 i (omega arith)) (ok.machines-valid i h))
            (rw (get_or_at m.live b [] 0 (machine_count m) e) fits);
        moves-valid = λ v h. absurd (let f : ⊥ = omega arith in f);
        moves-distinct = λ v w h. absurd (let f : ⊥ = omega arith in f);
      }

-- moves with the same machine, from mode and command have the same number
abbrev Told : ℕ → Move → ℕ → Move → Type 0
Told v y w z = y.machine ≡ z.machine → y.from ≡ z.from → y.command ≡ z.command → v ≡ w

-- the same machines with other moves: a valid move stays so
module _ (m : Model) (moves : List Move) where
  pub same-guard : {v : Move} {g : Guard} → ValidGuard m v g → ValidGuard (with_moves m moves) v g
  same-guard k = record { present = k.present; foreign = k.foreign; nonempty = k.nonempty; within = k.within }

  pub same_move : {v : Move} → ValidMove m v → ValidMove (with_moves m moves) v
  same_move k =
      record {
        present = k.present;
        from-present = k.from-present;
        to-present = k.to-present;
        moves-on = k.moves-on;
        from-live = k.from-live;
        to-live = k.to-live;
        command-given = k.command-given;
        few-guards = k.few-guards;
        guards-valid = λ n h. same-guard (k.guards-valid n h);
        guards-rise = k.guards-rise;
      }

-- one more move
module _ (m : Model) (x : Move) where
  pub with-move : Valid m → move_count m < 250 → ValidMove m x → CommandRight m x → Valid (with_move m x)
  unfolding with_move
  with-move ok room fits command =
      record {
        few-machines = ok.few-machines;
        same_length = ok.same_length;
        few-moves = omega (arith, length-snoc m.moves x);
        machines-valid = ok.machines-valid;
        moves-valid =
            snoc-each m.moves x absent_move (λ i v. ValidMove (with_move m x) v)
            (λ i h. same_move m _ (ok.moves-valid i h)) (same_move m _ fits);
        moves-distinct = λ v w h k.
            snoc-each m.moves x absent_move (λ v y. Told v y w (move_at (with_move m x) w))
            (λ v h. snoc-each m.moves x absent_move (Told v (move_at m v))
            (λ w k. ok.moves-distinct v w h k)
            (λ a b c. absurd (command.new v h a b c)) w k)
            (snoc-each m.moves x absent_move (Told (move_count m) x)
            (λ w k a b c. absurd (command.new w k (sym a) (sym b) (sym c)))
            (λ a b c. refl) w k) v h;
      }
