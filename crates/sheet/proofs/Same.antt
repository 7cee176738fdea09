-- Moves that are the same by machine, from mode and command.
-- Assumes nothing.
use mathlib.Core.Path.{◌≡◌, sym, ◌∙◌}
use mathlib.Core.Bool.{true, ◌&&◌}
use borrow.Author.Tests.{eqb-true, eq-eqb}
use lib.Dec.{eqb}
use Rattle.common.proofs.Bools.{bool-ext, and_intro, and_left, and_right}
use Rattle.sheet.specs.Model.{Move, is_same_move}

module _ (v w : Move) where
  pub same-intro : v.machine ≡ w.machine → v.from ≡ w.from → v.command ≡ w.command → is_same_move v w ≡ true
  unfolding is_same_move
  same-intro x y z = and_intro (and_intro (eq-eqb _ _ x) (eq-eqb _ _ y)) (eq-eqb _ _ z)

  module _ (t : is_same_move v w ≡ true) where
    pub same-machine : v.machine ≡ w.machine
    unfolding is_same_move
    same-machine = eqb-true _ _ (and_left _ _ (and_left _ _ t))

    pub same_from : v.from ≡ w.from
    unfolding is_same_move
    same_from = eqb-true _ _ (and_right (eqb v.machine w.machine) _ (and_left _ _ t))

    pub same-command : v.command ≡ w.command
    unfolding is_same_move
    same-command = eqb-true _ _ (and_right (eqb v.machine w.machine && eqb v.from w.from) _ t)

-- the three of them
pub same-fields : (v w : Move) → is_same_move v w ≡ true
    → (v.machine ≡ w.machine) × (v.from ≡ w.from) × (v.command ≡ w.command)
same-fields v w t = (same-machine v w t, same_from v w t, same-command v w t)

same_back : (v w : Move) → is_same_move v w ≡ true → is_same_move w v ≡ true
same_back v w t = same-intro w v (sym (same-machine v w t)) (sym (same_from v w t)) (sym (same-command v w t))

pub same-swaps : (v w : Move) → is_same_move v w ≡ is_same_move w v
same-swaps v w = bool-ext (same_back v w) (same_back w v)

-- moves that are the same are the same as the same others
pub same_alike : (u v w : Move) → is_same_move u v ≡ true → is_same_move u w ≡ is_same_move v w
same_alike u v w t =
    let through : (a b c : Move) → is_same_move a b ≡ true → is_same_move b c ≡ true → is_same_move a c ≡ true =
    λ a b c p q.
    same-intro a c (same-machine a b p ∙ same-machine b c q) (same_from a b p ∙ same_from b c q)
    (same-command a b p ∙ same-command b c q) in
    bool-ext (through v u w (same_back u v t)) (through u v w t)
