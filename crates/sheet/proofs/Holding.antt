-- What judging holds of nothing, and with one more machine or move.
-- Assumes nothing.
use Prim.Native.Nat.{ℕ, ◌+◌, ◌<◌}
use mathlib.Core.Path.{◌≡◌, refl, sym, ◌∙◌}
use mathlib.Core.Bool.{false}
use mathlib.Core.List.{List, [], ◌∷◌, map, map-append}
use native.Mathlib.Omega.{arith}
use lib.ListN.{set, replicate, length-map}
use Rattle.common.specs.Bits.{beyond}
use Rattle.common.proofs.Pad.{pad-nil}
use Rattle.sheet.specs.Record.{byte}
use Rattle.sheet.specs.Model.{Move, Model, with_machine, with_move}
use Rattle.sheet.specs.Parse.{nothing}
use Rattle.sheet.specs.Kept.Held.{top_of, Held}
use Rattle.sheet.proofs.Fits.{MachinePasses}
use Rattle.sheet.proofs.Arrays.{more-below, more-pairs, fills, one-longer}

pub held-nothing : Held nothing.model (record { machines = 0; moves = 0 }) (replicate 256 0) (replicate 32 0)
unfolding beyond
held-nothing =
    record {
      counted = record { machines-are = refl; moves-are = refl };
      live-are = refl;
      tops-in = sym (pad-nil 256);
      live-in = sym (pad-nil 32);
      few-machines = omega arith;
      few-moves = omega arith;
      few-modes = λ i. omega arith;
      live-within = λ i. refl;
    }

module _ (m : Model) {machines moves : ℕ} {tops live : List ℕ}
    (h : Held m (record { machines = machines; moves = moves }) tops live) where
  pub held-machine : {top : ℕ} (body : List ℕ) → MachinePasses m body → top ≡ top_of (byte body 0)
      → Held (with_machine m (byte body 0) (byte body 1)) (record { machines = machines + 1; moves = moves })
      (set tops machines top) (set live machines (byte body 1))
  unfolding with_machine
  held-machine body f t =
      let a : ℕ = byte body 0 in
      let b : ℕ = byte body 1 in
      let n = h.counted.machines-are in
      let room : machines < 32 = omega (arith, f.room) in
      record {
        counted = record { machines-are = one-longer m.modes a n; moves-are = h.counted.moves-are };
        live-are = one-longer m.live b h.live-are;
        tops-in =
            rw (t, map-append top_of m.modes (a ∷ []))
            (fills 256 (map top_of m.modes) (top_of a) h.tops-in (length-map m.modes top_of ∙ n) (omega arith));
        live-in = fills 32 m.live b h.live-in h.live-are room;
        few-machines = omega arith;
        few-moves = h.few-moves;
        few-modes = more-below 8 m.modes a h.few-modes f.valid.few-modes;
        live-within =
            more-pairs (λ n mask. beyond n mask ≡ false) m.modes m.live a b (n ∙ sym h.live-are)
            h.live-within f.valid.within;
      }

  pub held_move : (v : Move) → moves < 250
      → Held (with_move m v) (record { machines = machines; moves = moves + 1 }) tops live
  unfolding with_move
  held_move v room =
      record {
        counted = record {
          machines-are = h.counted.machines-are;
          moves-are = one-longer m.moves v h.counted.moves-are;
        };
        live-are = h.live-are;
        tops-in = h.tops-in;
        live-in = h.live-in;
        few-machines = h.few-machines;
        few-moves = omega arith;
        few-modes = h.few-modes;
        live-within = h.live-within;
      }
