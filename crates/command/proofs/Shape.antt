-- What 13 tells: a state's modes and tags are there. What the shape of 15 tells is passed on from crate plan.
-- Assumes nothing.
use Prim.Native.Nat.{ℕ, ◌*◌, ◌<◌}
use mathlib.Core.Path.{◌≡◌}
use mathlib.Core.List.{List}
use mathlib.Core.Bool.{true}
use borrow.Author.Tests.{eqb-true, eq-eqb, leb-false, lt-leb, not-false}
use lib.Dec.{leb}
use lib.ListN.{length}
use Rattle.common.specs.Reply.{clear}
use Rattle.common.specs.Lists.{up_to}
use Rattle.common.proofs.Bools.{not-of-true, or-false-left, or-false-right, or-false-intro}
use Rattle.common.proofs.Lists.{any_none, any-fails}
use Rattle.common.proofs.Members.{up_to-mem, up_to-below}
use Rattle.common.proofs.Reply.{Clear}
use Rattle.common.proofs.Clear.{clear-each}
use Rattle.sheet.specs.Model.{Model, machine_count, mode_count}
use Rattle.plan.specs.Modes.{Fits}
pub use Rattle.plan.proofs.ShapedGroups.{shape-gapless, shape-first, groups-length, group-below, few-groups, move-below}
use Rattle.command.specs.State.{modes, mode_of, tag_of, bad_pair, state_faults}

-- a state that passes 13
pub record Sound (m : Model) (state : List ℕ) : Type 0 where
  pub long : length state ≡ 2 * machine_count m
  pub fits : Fits m (modes state)
  pub tags-fit : (i : ℕ) → i < machine_count m → tag_of state i < 2

pub sound-state : (m : Model) (state : List ℕ) → clear (state_faults m state) ≡ true → Sound m state
unfolding state_faults bad_pair
sound-state m state h =
    let c = clear-each _ h in
    record {
      long = eqb-true _ _ (not-false _ c.0);
      fits = λ i l.
          leb-false _ _ (or-false-left (leb (mode_count m i) (mode_of state i)) _ (any_none _ c.1.0 (up_to-mem l)));
      tags-fit = λ i l.
          leb-false _ _ (or-false-right (leb (mode_count m i) (mode_of state i)) _ (any_none _ c.1.0 (up_to-mem l)));
    }

pub state-sound : (m : Model) (state : List ℕ) → Sound m state → Clear (state_faults m state)
unfolding state_faults bad_pair
state-sound m state s = (
  not-of-true (eq-eqb _ _ s.long),
  (
    any-fails _ (up_to (machine_count m)) (λ i l.
        let h = up_to-below (machine_count m) l in
        or-false-intro (lt-leb _ _ (s.fits i h)) (lt-leb _ _ (s.tags-fit i h))),
    tt,
  ),
)
