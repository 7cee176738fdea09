-- Judging by the arrays is judging by the model that they hold.
-- Assumes nothing.
use Prim.Native.Nat.{ℕ, ◌≤◌, ◌<◌}
use mathlib.Core.Path.{◌≡◌, sym, ◌∙◌}
use mathlib.Core.Bool.{Bool, true, false}
use mathlib.Core.List.{List, [], ◌∷◌}
use native.Mathlib.Omega.{arith}
use borrow.Author.Tests.{leb-false, ltb-false, lt-ltb, le-ltb, le-leb, lt-leb, eq-eqb, ne_eqb}
use lib.Dec.{eqb}
use lib.ListN.{length}
use Rattle.common.specs.Reply.{Reply, refused, Fault, fault, unless}
use Rattle.common.proofs.Bools.{or-false-left}
use Rattle.common.proofs.Pad.{get_or-pad}
use Rattle.sheet.specs.Kept.Held.{Counts}
use Rattle.sheet.specs.Record.{byte}
use Rattle.sheet.specs.Model.{Model, mode_count, move_of}
use Rattle.sheet.specs.Faults.{wrong_move_length, bad_machine, bad_move, bad_guards}
use Rattle.sheet.specs.Faults.{machine_faults, end_faults}
use Rattle.sheet.specs.Kept.Held.{fine, dead_move, wrong_guards, body_faults, own_move_faults, own_replace_faults}
use Rattle.sheet.specs.Kept.Held.{own_withdraw_faults, own_faults, Counted, Held}
use Rattle.sheet.specs.Kept.Sent.{Small}
use Rattle.sheet.proofs.Fits.{has-modes}
use Rattle.sheet.proofs.BadMoves.{bad-move-dead}
use Rattle.sheet.proofs.BadGuards.{guards-by-tops}

-- a move that passes 6 has small numbers
pub passed-small : (m : Model) {counts : Counts} {tops live : List ℕ} (body : List ℕ) → Held m counts tops live
    → bad_move m.modes m.live (move_of body) ≡ false → byte body 3 < 256 → Small (move_of body)
unfolding bad_move move_of
passed-small m body h f last =
    let from : byte body 1 < mode_count m (byte body 0) =
    leb-false _ _ (or-false-left _ _ (or-false-left _ _ (or-false-left _ _ (or-false-left _ _ f)))) in
    let present = has-modes m (byte body 0) (omega arith) in
    record {
      machine = omega (arith, h.counted.machines-are, h.few-machines);
      from = omega (arith, h.few-modes (byte body 0));
      command = last;
    }

-- a move's body has its four first bytes
pub move-long : (n : ℕ) {a : Bool} → a ≡ wrong_move_length n → a ≡ false → 4 ≤ n
unfolding wrong_move_length
move-long n e f = ltb-false _ _ (or-false-left _ _ (or-false-left _ _ (sym e ∙ f)))

-- the causes that are judged here, by the kind of the record
module _ (m : Model) (at kind : ℕ) (body : List ℕ) where
  pub own-machine : kind ≡ 1 → own_faults m at kind body ≡ machine_faults m at body
  unfolding own_faults
  own-machine k = rw k

  pub own-move : kind ≡ 2 → own_faults m at kind body ≡ own_move_faults m at body
  unfolding own_faults
  own-move k = rw k

  pub own-end : kind ≡ 3 → own_faults m at kind body ≡ end_faults m at body
  unfolding own_faults
  own-end k = rw k

  pub own-replace : kind ≡ 4 → own_faults m at kind body ≡ own_replace_faults m at body
  unfolding own_faults
  own-replace k = rw k

  pub own-withdraw : kind ≡ 5 → own_faults m at kind body ≡ own_withdraw_faults at body
  unfolding own_faults
  own-withdraw k = rw k

  pub own-unknown : (kind ≡ 1 → ⊥) → (kind ≡ 2 → ⊥) → (kind ≡ 3 → ⊥) → (kind ≡ 4 → ⊥) → (kind ≡ 5 → ⊥)
      → own_faults m at kind body ≡ fault 2 at true ∷ []
  unfolding own_faults
  own-unknown a b c d e = rw (ne_eqb kind 1 a, ne_eqb kind 2 b, ne_eqb kind 3 c, ne_eqb kind 4 d, ne_eqb kind 5 e)

-- what is found in a machine record, test by test
module _ (m : Model) (at : ℕ) {counts : Counts} (body : List ℕ) (n : Counted m counts) where
  pub machine-length : (length body ≡ 2 → ⊥) → refused 2 at ≡ unless (machine_faults m at body) fine
  unfolding unless machine_faults
  machine-length h = rw (ne_eqb _ _ h)

  pub machine-late : length body ≡ 2 → 0 < counts.moves → refused 4 at ≡ unless (machine_faults m at body) fine
  unfolding unless machine_faults
  machine-late h g = rw (eq-eqb _ _ h, n.moves-are, lt-ltb _ _ g)

  pub machine-many : length body ≡ 2 → counts.moves ≤ 0 → 32 ≤ counts.machines
      → refused 4 at ≡ unless (machine_faults m at body) fine
  unfolding unless machine_faults
  machine-many h g k = rw (eq-eqb _ _ h, n.moves-are, le-ltb _ _ g, n.machines-are, le-leb _ _ k)

  module _ {a : Bool} (h : length body ≡ 2) (g : counts.moves ≤ 0) (k : counts.machines < 32)
      (b : a ≡ bad_machine (byte body 0) (byte body 1)) where
    pub machine-bad : a ≡ true → refused 5 at ≡ unless (machine_faults m at body) fine
    unfolding unless machine_faults
    machine-bad t = rw (eq-eqb _ _ h, n.moves-are, le-ltb _ _ g, n.machines-are, lt-leb _ _ k, ← b, t)

    pub machine-fine : a ≡ false → fine ≡ unless (machine_faults m at body) fine
    unfolding unless machine_faults
    machine-fine t = rw (eq-eqb _ _ h, n.moves-are, le-ltb _ _ g, n.machines-are, lt-leb _ _ k, ← b, t)

-- what is found in the body of a move or of its replacement, test by test: 6, 7, and 8 for no command
module _ (m : Model) (at : ℕ) {counts : Counts} {tops live : List ℕ} (body : List ℕ) (h : Held m counts tops live)
    {a : Bool} (e : a ≡ dead_move live (move_of body)) where
  held-dead : bad_move m.modes m.live (move_of body) ≡ dead_move live (move_of body)
  unfolding dead_move
  held-dead = bad-move-dead _ _ _ (h.live-within _) ∙ rw (h.live-in, get_or-pad)

  held_guards : bad_guards m.modes (move_of body) ≡ wrong_guards tops (move_of body)
  held_guards = rw h.tops-in (sym (guards-by-tops _ _))

  held-body : unless (body_faults m at body) fine
      ≡ unless
      (fault 6 at a
      ∷ fault 7 at (wrong_guards tops (move_of body))
      ∷ fault 8 at (eqb (move_of body).command 0)
      ∷ []) fine
  unfolding body_faults
  held-body = rw (held-dead, ← e, held_guards)

  pub body-bad : a ≡ true → refused 6 at ≡ unless (body_faults m at body) fine
  unfolding unless
  body-bad t = sym (held-body ∙ rw t)

  module _ {b : Bool} (f : a ≡ false) (g : b ≡ wrong_guards tops (move_of body)) where
    pub body-guards : b ≡ true → refused 7 at ≡ unless (body_faults m at body) fine
    unfolding unless
    body-guards t = sym (held-body ∙ rw (f, ← g, t))

    pub body-silent : b ≡ false → byte body 3 ≡ 0 → refused 8 at ≡ unless (body_faults m at body) fine
    unfolding unless move_of
    body-silent w y = sym (held-body ∙ rw (f, ← g, w, eq-eqb _ _ y))

    pub body-fine : b ≡ false → (byte body 3 ≡ 0 → ⊥) → fine ≡ unless (body_faults m at body) fine
    unfolding unless move_of
    body-fine w y = sym (held-body ∙ rw (f, ← g, w, ne_eqb _ _ y))

-- 2 for the record of a move or of its replacement, before other causes
module _ (at : ℕ) (body : List ℕ) (fs : List Fault) {a : Bool} (e : a ≡ wrong_move_length (length body)) where
  pub length-wrong : a ≡ true → refused 2 at ≡ unless (fault 2 at (wrong_move_length (length body)) ∷ fs) fine
  unfolding unless
  length-wrong t = rw (← e, t)

  pub length-right : {r : Reply Unit} → a ≡ false → r ≡ unless fs fine
      → r ≡ unless (fault 2 at (wrong_move_length (length body)) ∷ fs) fine
  unfolding unless
  length-right f q = rw (← e, f) q

-- 4 for the record of a move
module _ (m : Model) (at : ℕ) {counts : Counts} (body : List ℕ) (n : Counted m counts) {a : Bool}
    (e : a ≡ wrong_move_length (length body)) (f : a ≡ false) where
  pub move-early : counts.machines ≡ 0 → refused 4 at ≡ unless (own_move_faults m at body) fine
  unfolding unless own_move_faults
  move-early z = rw (← e, f, n.machines-are, eq-eqb _ _ z)

  module _ (z : counts.machines ≡ 0 → ⊥) where
    pub move-many : 250 ≤ counts.moves → refused 4 at ≡ unless (own_move_faults m at body) fine
    unfolding unless own_move_faults
    move-many k = rw (← e, f, n.machines-are, ne_eqb _ _ z, n.moves-are, le-leb _ _ k)

    pub move-placed : {r : Reply Unit} → counts.moves < 250 → r ≡ unless (body_faults m at body) fine
        → r ≡ unless (own_move_faults m at body) fine
    unfolding unless own_move_faults
    move-placed k q = q ∙ rw (← e, f, n.machines-are, ne_eqb _ _ z, n.moves-are, lt-leb _ _ k)
