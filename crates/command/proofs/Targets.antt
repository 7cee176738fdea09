-- A goal that leaves each machine a mode has a target in every group, and one alone.
-- Assumes nothing.
use Prim.Native.Nat.{ℕ, ◌≤◌, ◌<◌}
use mathlib.Core.Path.{◌≡◌}
use mathlib.Core.List.{List, map}
use mathlib.Core.Bool.{Bool, true, not}
use native.Mathlib.Omega.{arith}
use borrow.Author.Tests.{eqb-true, eqb-false, ltb-true, leb-true, leb-false, le-leb}
use lib.Dec.{eqb, ltb, leb}
use lib.ListN.{length, get_or}
use Rattle.common.specs.Lists.{up_to, any, find}
use Rattle.common.specs.Bits.{bit}
use Rattle.common.specs.Reply.{clear}
use Rattle.common.proofs.Bits.{bit-some, bit-full}
use Rattle.common.proofs.Bools.{by_cases, and_intro, or_left, or_right, or-false-left, or-false-right, not_of_false}
use Rattle.common.proofs.Lists.{all-intro, any-intro, any_none}
use Rattle.common.proofs.Members.{mem-get_or, up_to-mem, up_to-below, get_or-map-up_to}
use Rattle.common.proofs.Search.{find-holds, find-mem, find-up_to-least, find-up_to-below}
use Rattle.common.proofs.Clear.{clear-each}
use Rattle.sheet.specs.Record.{byte}
use Rattle.sheet.specs.Model.{Guard, Model, machine_count, mode_count, move_count, move_at, guard, absent_move}
use Rattle.sheet.specs.Valid.{Valid}
use Rattle.plan.specs.Groups.{Grouping, group_of}
use Rattle.plan.specs.Modes.{Fits, size, mode_number}
use Rattle.plan.specs.Reading.{groups_in, well_shaped}
use Rattle.plan.proofs.Named.{guard-valid}
use Rattle.plan.proofs.Modes.{member_below, mode_number-below, mode_in-mode_number}
use Rattle.command.specs.Goal.{bad_byte, goal_faults}
use Rattle.command.specs.Goal.{Masks, any_mode, goal_masks, guard_masks, allowed}
use Rattle.command.specs.Attainable.{groups}
use Rattle.command.specs.Next.{distance_to, nearest, target_of}
use Rattle.command.specs.Method.{Target}
use Rattle.command.proofs.Shape.{groups-length}
use Rattle.command.proofs.Guards.{mask-inside, mask-outside, mask-free}
use Rattle.command.proofs.Goals.{allowed_intro}
use Rattle.command.proofs.Following

-- machine i has a mode in a set
abbrev pub HasOne : Model → ℕ → ℕ → Type 0
HasOne m i mask = (c : ℕ) × (c < mode_count m i) × (bit mask c ≡ true)

-- each machine has a mode that the goal allows
abbrev pub LeavesModes : Model → Masks → Type 0
LeavesModes m masks = (i : ℕ) → i < machine_count m → HasOne m i (get_or masks i any_mode)

module _ (m : Model) (valid : Valid m) where
  free : (i : ℕ) → i < machine_count m → HasOne m i any_mode
  free i there = (0, (valid.machines-valid i there).has-mode, bit-full 0 (omega arith))

  -- a goal that passes 14
  pub goal-leaves : (goal : List ℕ) → clear (goal_faults m goal) ≡ true → LeavesModes m (goal_masks m goal)
  unfolding goal_masks goal_faults bad_byte
  goal-leaves goal passes i there =
      rw (get_or-map-up_to _ any_mode there)
      (by_cases (ltb i (length goal))
      (λ t.
      let fine = any_none _ (clear-each _ passes).1.0 (up_to-mem (ltb-true _ _ t)) in
      rw t (bit-some (mode_count m i) (byte goal i)
      (or-false-right (eqb (byte goal i) 0) _ fine) (eqb-false _ _ (or-false-left (eqb (byte goal i) 0) _ fine))))
      (λ f. rw f (free i there)))

  -- the needs of a move
  pub needs-leave : (groups : Grouping) (k v : ℕ) → v < move_count m → LeavesModes m (guard_masks m groups k (move_at m v))
  needs-leave groups k v here i there =
      by_cases (eqb (group_of groups i) k)
      (λ t. rw (mask-inside m groups k (move_at m v) i there (eqb-true _ _ t)) (free i there))
      (λ f.
      let other = eqb-false _ _ f in
      by_cases (any on guards)
      (λ some.
      let found = find on guards (guard i any_mode) in
      let e : found.machine ≡ i = eqb-true _ _ (find-holds on guards (guard i any_mode) some) in
      let good = guard-valid valid (mem-get_or m.moves v absent_move here) (find-mem on guards (guard i any_mode) some) in
      rw (mask-outside m groups k (move_at m v) i there other)
      (bit-some (mode_count m i) found.mask (rw e at good.within) good.nonempty))
      (λ none. rw (mask-free m groups k (move_at m v) i there other none) (free i there)))
    where
      guards : List Guard
      guards = (move_at m v).guards

      on : Guard → Bool
      on g = eqb g.machine i

  -- so in each group a group mode is allowed: that of a state in which each machine has such a mode
  module _ (plan : List ℕ) (shaped : well_shaped m plan ≡ true) (masks : Masks) (leaves : LeavesModes m masks) where
    abbrev pick : ℕ → ℕ
    pick i = find (bit (get_or masks i any_mode)) (up_to (mode_count m i)) 0

    pick_some : (i : ℕ) → i < machine_count m → any (bit (get_or masks i any_mode)) (up_to (mode_count m i)) ≡ true
    pick_some i there = let r = leaves i there in any-intro _ (up_to-mem r.1) r.2

    abbrev picks : List ℕ
    picks = map pick (up_to (machine_count m))

    pick_at : (i : ℕ) → i < machine_count m → get_or picks i 0 ≡ pick i
    pick_at i there = get_or-map-up_to pick 0 there

    picks-fit : Fits m picks
    picks-fit i there =
        rw (pick_at i there) (find-up_to-below (bit (get_or masks i any_mode)) (mode_count m i) 0 (pick_some i there))

    pub allowed-some : (k : ℕ)
        → (q : ℕ) × (q < size m (groups_in m plan) k) × (allowed m (groups_in m plan) masks k q ≡ true)
    allowed-some k =
        let own = groups_in m plan in
        let n = groups-length m valid plan shaped in
        let q = mode_number m own k picks in (
          q,
          mode_number-below m valid own n k picks picks-fit,
          allowed_intro m own k q masks (λ i l.
              let there : i < machine_count m = omega (arith, n, member_below own k l) in
              rw (mode_in-mode_number m valid own n k picks i picks-fit l, pick_at i there)
              (find-holds (bit (get_or masks i any_mode)) (up_to (mode_count m i)) 0 (pick_some i there))),
        )

-- The target that is computed is the one that is meant
module _ (m : Model) (plan state : List ℕ) (masks : Masks) (k : ℕ) where
  near : (t : ℕ) → allowed m (groups m plan) masks k t ≡ true
      → distance_to m plan state k t ≤ distance_to m plan state k (target_of m plan state masks k)
      → nearest m plan state masks k t ≡ true
  unfolding nearest
  near t a le =
      and_intro a
      (all-intro _ _ (λ u i. by_cases (allowed m (groups m plan) masks k u)
      (λ b. or_right (not (allowed m (groups m plan) masks k u))
      (le-leb (distance_to m plan state k t) (distance_to m plan state k u)
      (omega (arith, le, Following.target-least m plan state masks k u (up_to-below (size m (groups m plan) k) i) b))))
      (λ f. or_left _ (not_of_false f))))

  least : (t : ℕ) → t < size m (groups m plan) k → nearest m plan state masks k t ≡ true
      → target_of m plan state masks k ≤ t
  unfolding target_of
  least t l n = find-up_to-least (nearest m plan state masks k) 0 t l n

  pub target_right : {q : ℕ} → q < size m (groups m plan) k → allowed m (groups m plan) masks k q ≡ true
      → Target m plan state masks k (target_of m plan state masks k)
  target_right below fits =
      let inside = Following.target-size m plan state masks k _ below fits in
      record {
        within = inside;
        fits = Following.target-allowed m plan state masks k _ below fits;
        nearest = Following.target-least m plan state masks k;
        smallest = λ t l a.
            by_cases (leb (distance_to m plan state k t) (distance_to m plan state k (target_of m plan state masks k)))
            (λ e. let n = least t (omega arith) (near t a (leb-true _ _ e)) in absurd (omega arith))
            (λ f. leb-false _ _ f);
      }

  not-before : {p q : ℕ} → Target m plan state masks k p → Target m plan state masks k q → ¬ (p < q)
  not-before {p} {q} one other l =
      omega (arith, other.smallest p l one.fits, one.nearest q other.within other.fits)

  -- a group mode that is meant is the one that is computed
  pub target-only : {q : ℕ} → Target m plan state masks k q → target_of m plan state masks k ≡ q
  target-only t =
      let own = target_right t.within t.fits in
      omega (arith, not-before own t, not-before t own)
