-- Keys: a key tells a move.
-- Assumes nothing.
use Prim.Native.Nat.{◌+◌, ◌*◌}
use mathlib.Core.Path.{◌≡◌, sym, ◌∙◌}
use mathlib.Core.List.{List, map, Memᴰ}
use native.Mathlib.Omega.{arith}
use native.Mathlib.Nat.{mod-eq_of_lt}
use borrow.Author.Tests.{eqb-true, eq-eqb}
use lib.Dec.{eqb}
use Rattle.common.specs.Lists.{any}
use Rattle.common.proofs.Bools.{bool-ext}
use Rattle.common.proofs.Lists.{any-map, any-cong}
use Rattle.sheet.specs.Model.{Move, is_same_move}
use Rattle.sheet.specs.Kept.Sent.{key_of, Small}
use Rattle.sheet.proofs.Same.{same-intro, same-machine, same_from, same-command}

pub key-small : (v : Move) → Small v → key_of v ≡ 2048 * v.machine + 256 * v.from + v.command
unfolding key_of
key-small v a = mod-eq_of_lt (omega (arith, a.machine, a.from, a.command))

-- moves of small numbers with the same key are the same by machine, from mode and command
pub key-tells : (v w : Move) → Small v → Small w → eqb (key_of v) (key_of w) ≡ is_same_move v w
key-tells v w a b =
    bool-ext
    (λ t.
    let e : 2048 * v.machine + 256 * v.from + v.command ≡ 2048 * w.machine + 256 * w.from + w.command =
    sym (key-small v a) ∙ eqb-true _ _ t ∙ key-small w b in
    let x : v.machine ≡ w.machine = omega (arith, a.from, b.from, a.command, b.command) in
    let y : v.from ≡ w.from = omega (arith, a.command, b.command) in
    same-intro v w x y (omega arith))
    (λ t.
    let e : 2048 * v.machine + 256 * v.from + v.command ≡ 2048 * w.machine + 256 * w.from + w.command =
    omega (arith, same-machine v w t, same_from v w t, same-command v w t) in
    eq-eqb _ _ (key-small v a ∙ e ∙ sym (key-small w b)))

-- a key among those of some moves: one of them is the same
pub key-repeats : (vs : List Move) (v : Move) → ((w : Move) → Memᴰ w vs → Small w) → Small v
    → any (eqb (key_of v)) (map key_of vs) ≡ any (is_same_move v) vs
key-repeats vs v small a =
    any-map (eqb (key_of v)) key_of vs
    ∙ any-cong (λ w. eqb (key_of v) (key_of w)) (is_same_move v) vs (λ w i. key-tells v w a (small w i))
