-- Fulfilling a goal, one turn at a time: the target of a group, the entry followed, and where each test leads.
-- Assumes nothing.
use Prim.Native.Nat.{ℕ, suc, ◌≤◌, ◌<◌}
use mathlib.Core.Path.{◌≡◌, refl, ap, ap₂}
use mathlib.Core.Logic.{⊎_elim}
use mathlib.Core.List.{List}
use mathlib.Core.Bool.{Bool, true, false, not, ◌&&◌, ◌||◌}
use borrow.Author.Tests.{leb-true, le-leb, lt-leb, eq-eqb, ne_eqb}
use lib.Dec.{leb}
use Rattle.common.specs.Lists.{up_to, all, any, find}
use Rattle.common.specs.Reply.{Reply, given, refused, unless}
use Rattle.common.proofs.Bools.{by_cases, true-false, not-of-true, not_of_false, and_intro, and_left, and_right}
use Rattle.common.proofs.Bools.{or_cases, or_left, or_right, or-false-intro}
use Rattle.common.proofs.Members.{up_to-mem, up_to-below}
use Rattle.common.proofs.Lists.{all-at, all-intro, any-intro}
use Rattle.common.proofs.Search.{find-holds, find-mem}
use Rattle.common.proofs.Least.{least-of}
use Rattle.sheet.specs.Model.{Move, Model, move_count, move_at}
use Rattle.plan.specs.Groups.{group_of}
use Rattle.plan.specs.Modes.{size}
use Rattle.plan.specs.Table.{Entry}
use Rattle.plan.specs.Reading.{entry_at}
use Rattle.command.specs.State.{mode_of}
use Rattle.command.specs.Goal.{Masks, guard_masks, met, allowed}
use Rattle.command.specs.Attainable.{groups, present}
use Rattle.command.specs.Next.{Next, done, command, distance_to, nearest, target_of, holds_inside, holds_outside}
use Rattle.command.specs.Next.{unfit_with, prepare_by, follow_with, fulfil_with}

-- a group in the same mode has the same target and follows the same entry
module _ (m : Model) (plan state state' : List ℕ) (masks : Masks) (k : ℕ)
    (same : present m plan state' k ≡ present m plan state k) where
  same_target : target_of m plan state' masks k ≡ target_of m plan state masks k
  unfolding target_of nearest
  same_target =
      ap (λ p. find (λ q. allowed m (groups m plan) masks k q
      && all (λ t. not (allowed m (groups m plan) masks k t)
      || leb (entry_at m plan k p q).distance (entry_at m plan k p t).distance) (up_to (size m (groups m plan) k)))
      (up_to (size m (groups m plan) k)) 0) same

  pub same-entry : entry_at m plan k (present m plan state' k) (target_of m plan state' masks k)
      ≡ entry_at m plan k (present m plan state k) (target_of m plan state masks k)
  same-entry = ap₂ (entry_at m plan k) same same_target

module _ (m : Model) (plan state : List ℕ) where
  -- The target: with an allowed mode at hand it is allowed, and none is nearer

  module _ (masks : Masks) (k q : ℕ) (below : q < size m (groups m plan) k)
      (fits : allowed m (groups m plan) masks k q ≡ true) where
    nearest-some : any (nearest m plan state masks k) (up_to (size m (groups m plan) k)) ≡ true
    unfolding nearest
    nearest-some =
        let l = least-of (allowed m (groups m plan) masks k) (distance_to m plan state k) below fits in
        any-intro (nearest m plan state masks k) (up_to-mem l.below)
        (and_intro l.holds
        (all-intro _ _ (λ t h. by_cases (allowed m (groups m plan) masks k t)
        (λ a. or_right (not (allowed m (groups m plan) masks k t)) (le-leb _ _ (l.at_most t (up_to-below _ h) a)))
        (λ f. or_left _ (not_of_false f)))))

    target-nearest : nearest m plan state masks k (target_of m plan state masks k) ≡ true
    unfolding target_of
    target-nearest = find-holds (nearest m plan state masks k) _ 0 nearest-some

    pub target-size : target_of m plan state masks k < size m (groups m plan) k
    unfolding target_of
    target-size = up_to-below _ (find-mem (nearest m plan state masks k) _ 0 nearest-some)

    pub target-allowed : allowed m (groups m plan) masks k (target_of m plan state masks k) ≡ true
    unfolding nearest
    target-allowed = and_left _ _ target-nearest

    pub target-least : distance_to m plan state k (target_of m plan state masks k) ≤ distance_to m plan state k q
    unfolding nearest
    target-least =
        let t = target_of m plan state masks k in
        let all-farther = and_right (allowed m (groups m plan) masks k t) _ target-nearest in
        ⊎_elim
        (λ n. absurd (true-false n (not-of-true fits)))
        (λ l. leb-true _ _ l)
        (or_cases _ _ (all-at _ all-farther (up_to-mem below)))

  -- the first move of the entry toward the target
  abbrev pub first_move : Masks → ℕ → ℕ
  first_move masks k = (entry_at m plan k (present m plan state k) (target_of m plan state masks k)).move

  -- its needs, taken as a goal
  abbrev pub needs_of : Masks → ℕ → Masks
  needs_of masks k = guard_masks m (groups m plan) k (move_at m (first_move masks k))

  pub prepare-sends : (next : Masks → Reply Next) (k : ℕ) (v : Move) → holds_outside m plan state k v ≡ true
      → prepare_by m plan state next k v ≡ given (command v.machine v.command)
  unfolding prepare_by
  prepare-sends next k v e = rw e

  pub prepare-asks : (next : Masks → Reply Next) (k : ℕ) (v : Move) → holds_outside m plan state k v ≡ false
      → prepare_by m plan state next k v ≡ next (guard_masks m (groups m plan) k v)
  unfolding prepare_by
  prepare-asks next k v e = rw e

-- The turns, by a test of the moves that count
module _ (m : Model) (plan state : List ℕ) (counts : ℕ → Bool) where
  pub fulfil-none : (masks : Masks) → fulfil_with m plan state counts masks 0 ≡ given done
  unfolding fulfil_with
  fulfil-none masks = refl

  pub fulfil-met : (masks : Masks) (k : ℕ) → met (groups m plan) masks state k ≡ true
      → fulfil_with m plan state counts masks (suc k) ≡ fulfil_with m plan state counts masks k
  unfolding fulfil_with
  fulfil-met masks k e = rw e

  pub fulfil-unmet : (masks : Masks) (k : ℕ) → met (groups m plan) masks state k ≡ false
      → fulfil_with m plan state counts masks (suc k) ≡ follow_with m plan state counts (λ needs. fulfil_with m plan state counts needs k) masks k
  unfolding fulfil_with
  fulfil-unmet masks k e = rw e

  pub follow-fit : (next : Masks → Reply Next) (masks : Masks) (k : ℕ)
      → unfit_with m plan state counts k (entry_at m plan k (present m plan state k) (target_of m plan state masks k)) ≡ false
      → follow_with m plan state counts next masks k ≡ prepare_by m plan state next k (move_at m (first_move m plan state masks k))
  unfolding follow_with unless
  follow-fit next masks k e = rw e

  pub follow-unfit : (next : Masks → Reply Next) (masks : Masks) (k : ℕ)
      → unfit_with m plan state counts k (entry_at m plan k (present m plan state k) (target_of m plan state masks k)) ≡ true
      → follow_with m plan state counts next masks k ≡ refused 15 0
  unfolding follow_with unless
  follow-unfit next masks k e = rw e

  pub fit : (k : ℕ) (e : Entry) → (e.distance ≡ 255 → ⊥) → e.move < move_count m
      → group_of (groups m plan) (move_at m e.move).machine ≡ k
      → mode_of state (move_at m e.move).machine ≡ (move_at m e.move).from
      → holds_inside m plan state k (move_at m e.move) ≡ true → counts e.move ≡ true → unfit_with m plan state counts k e ≡ false
  unfolding unfit_with
  fit k e far here own from inside known =
      or-false-intro
      (or-false-intro
      (or-false-intro
      (or-false-intro
      (or-false-intro (ne_eqb e.distance 255 far) (lt-leb _ _ here))
      (not-of-true (eq-eqb _ _ own)))
      (not-of-true (eq-eqb _ _ from)))
      (not-of-true inside))
      (not-of-true known)
