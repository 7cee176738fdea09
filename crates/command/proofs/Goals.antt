-- Goals: a group is met if its present mode is allowed; a move's needs, taken as a goal, allow the modes that meet them.
-- Assumes nothing.
use Prim.Native.Nat.{ℕ, ◌<◌}
use mathlib.Core.Path.{◌≡◌, refl, sym, ap, ◌∙◌}
use mathlib.Core.Logic.{⊎_elim}
use mathlib.Core.List.{List, [], ◌∷◌, Memᴰ}
use mathlib.Core.Bool.{Bool, true, false}
use native.Mathlib.Omega.{arith}
use borrow.Author.Tests.{eqb-true, eqb-false, eq-eqb}
use lib.Dec.{eqb}
use lib.ListN.{get_or}
use Rattle.common.specs.Lists.{any, find}
use Rattle.common.specs.Bits.{bit}
use Rattle.common.proofs.Bools.{by_cases, true-false, bool-ext, and_left, or-false-left, or-false-right, false-of-not-true}
use Rattle.common.proofs.Lists.{all-cong, all-at, all-intro, all-fails}
use Rattle.common.proofs.Least.{mem-or-not}
use Rattle.common.proofs.Search.{find-holds, find-mem}
use Rattle.common.proofs.When.{when-known, unless-known, all-when-intro}
use Rattle.sheet.specs.Model.{Guard, Move, Model, machine_count, is_live_mode, move_at, guard}
use Rattle.sheet.specs.Valid.{Valid, ValidMove}
use Rattle.plan.specs.Groups.{Grouping, group_of, members, moves_of, named_outside}
use Rattle.plan.specs.Modes.{size, mode_in, live_mode}
use Rattle.plan.specs.Usable.{meets}
use Rattle.plan.specs.Reading.{groups_in, well_shaped}
use Rattle.plan.proofs.Named.{named_other, named-of-move, guard-inside-or-named, guard-valid, guard-at-most, moves-mem}
use Rattle.plan.proofs.Modes.{member_below, member_of, is_member}
use Rattle.plan.proofs.Modes.{mode_in-below, mode_number-below, mode_in-mode_number}
use Rattle.plan.proofs.Words.{members-mean, live-means}
use Rattle.plan.specs.Reading.{counted}
use Rattle.command.specs.State.{modes, mode_of}
use Rattle.command.specs.Goal.{Masks, any_mode, guard_masks, met, allowed}
use Rattle.command.specs.Ancestors.{upstream_in}
use Rattle.command.specs.Attainable.{present, live_group}
use Rattle.command.specs.Next.{holds_inside, holds_outside}
use Rattle.command.proofs.Shape.{Sound, groups-length, shape-first, move-below}
use Rattle.command.proofs.Upstream.{named-upstream}
use Rattle.command.proofs.Guards.{full-byte, mask-inside, mask-outside, mask-free, mask-guard}
use Rattle.plan.proofs.Named.{moves-below, moves-group}

-- machine by machine, and guard by guard
module _ (m : Model) (groups : Grouping) (a q : ℕ) where
  pub allowed_at : (masks : Masks) {i : ℕ} → allowed m groups masks a q ≡ true → Memᴰ i (members groups a)
      → bit (get_or masks i any_mode) (mode_in m groups a q i) ≡ true
  unfolding allowed
  allowed_at masks t l = all-at _ t l

  pub allowed_intro : (masks : Masks)
      → ((i : ℕ) → Memᴰ i (members groups a) → bit (get_or masks i any_mode) (mode_in m groups a q i) ≡ true)
      → allowed m groups masks a q ≡ true
  unfolding allowed
  allowed_intro masks h = all-intro _ (members groups a) h

  pub meets_at : (v : Move) {g : Guard} → meets m groups a v q ≡ true → Memᴰ g v.guards
      → group_of groups g.machine ≡ a → bit g.mask (mode_in m groups a q g.machine) ≡ true
  unfolding meets
  meets_at v t l e = when-known (eq-eqb _ _ e) (all-at _ t l)

  pub meets-intro : (v : Move)
      → ((g : Guard) → Memᴰ g v.guards → group_of groups g.machine ≡ a
      → bit g.mask (mode_in m groups a q g.machine) ≡ true)
      → meets m groups a v q ≡ true
  unfolding meets
  meets-intro v h = all-when-intro _ _ v.guards (λ g l e. h g l (eqb-true _ _ e))

module _ (m : Model) (valid : Valid m) (plan : List ℕ) (shaped : well_shaped m plan ≡ true) where
  abbrev own : Grouping
  own = groups_in m plan

  member-there : (a i : ℕ) → Memᴰ i (members own a) → i < machine_count m
  member-there a i l = omega (arith, groups-length m valid plan shaped, member_below own a l)

  -- any mode of a machine is in the full byte
  full-mode : (a q i : ℕ) → Memᴰ i (members own a) → bit 255 (mode_in m own a q i) ≡ true
  full-mode a q i l =
      full-byte valid i _ (member-there a i l) (mode_in-below m valid own (groups-length m valid plan shaped) a q i l)

  module _ (state : List ℕ) (sound : Sound m state) where
    pub present-below : (k : ℕ) → present m plan state k < size m (groups_in m plan) k
    present-below k = mode_number-below m valid own (groups-length m valid plan shaped) k (modes state) sound.fits

    -- the mode of a machine in its group's present mode
    pub mode-present : (k i : ℕ) → Memᴰ i (members (groups_in m plan) k)
        → mode_in m (groups_in m plan) k (present m plan state k) i ≡ mode_of state i
    mode-present k i l = mode_in-mode_number m valid own (groups-length m valid plan shaped) k (modes state) i sound.fits l

    pub met-allowed : (masks : Masks) (k : ℕ)
        → met (groups_in m plan) masks state k ≡ allowed m (groups_in m plan) masks k (present m plan state k)
    unfolding met allowed
    met-allowed masks k =
        all-cong _ _ (members own k) (λ i l. ap (bit (get_or masks i any_mode)) (sym (mode-present k i l)))

    -- a live group is in a live group mode; arrival uses no more than that
    pub live-mode : (k : ℕ) → live_group m plan state k ≡ true
        → live_mode m (groups_in m plan) k (present m plan state k) ≡ true
    unfolding live_group
    live-mode k l =
        let long = groups-length m valid plan shaped in
        (live-means m own long k _).1 (λ i b.
        let h = (members-mean m own long i k).1 b in
        ap (is_live_mode m i) (mode-present k i h) ∙ and_left _ _ (all-at _ l h))

  -- the needs of a move of group k, taken as a goal
  module _ (k v : ℕ) (member : Memᴰ v (moves_of m (groups_in m plan) k)) where
    abbrev needs : Masks
    needs = guard_masks m own k (move_at m v)

    abbrev guards : List Guard
    guards = (move_at m v).guards

    own-valid : ValidMove m (move_at m v)
    own-valid = valid.moves-valid v (moves-below m (groups_in m plan) k member)

    guard-there : (g : Guard) → Memᴰ g guards → g.machine < machine_count m
    guard-there g l = (guard-valid valid (moves-mem m own k member) l).present

    guard-member : (a : ℕ) (g : Guard) → Memᴰ g guards → group_of own g.machine ≡ a
        → Memᴰ g.machine (members own a)
    guard-member a g l e = is_member own a (rw groups-length (guard-there g l)) e

    -- the mask of a guard on another group
    guard-mask : (g : Guard) → Memᴰ g guards → (group_of own g.machine ≡ k → ⊥)
        → get_or needs g.machine any_mode ≡ g.mask
    guard-mask g l n = mask-guard own k own-valid l (guard-there g l) n

    -- a mode that is allowed meets the needs on its group
    allowed-meets : (a q : ℕ) → (a ≡ k → ⊥) → allowed m own needs a q ≡ true → meets m own a (move_at m v) q ≡ true
    allowed-meets a q n t =
        meets-intro m own a q (move_at m v) (λ g l e.
        rw (guard-mask g l (λ c. n (sym e ∙ c))) at (allowed_at m own a q needs t (guard-member a g l e)))

    -- a machine with a guard, in a mode that meets it
    guarded : (a q i : ℕ) → Memᴰ i (members own a) → (group_of own i ≡ k → ⊥) → meets m own a (move_at m v) q ≡ true
        → any (λ g. eqb g.machine i) guards ≡ true → bit (get_or needs i any_mode) (mode_in m own a q i) ≡ true
    guarded a q i l other t some =
        let first = guard i any_mode in
        let found = find (λ g. eqb g.machine i) guards first in
        let e : found.machine ≡ i = eqb-true _ _ (find-holds _ guards first some) in
        let here = ap (group_of own) e ∙ member_of own a l in
        rw (mask-outside m own k (move_at m v) i (member-there a i l) other)
        (rw e at (meets_at m own a q (move_at m v) t (find-mem (λ g. eqb g.machine i) guards first some) here))

    -- a mode that meets the needs is allowed
    meets-allowed : (a q : ℕ) → (a ≡ k → ⊥) → meets m own a (move_at m v) q ≡ true → allowed m own needs a q ≡ true
    meets-allowed a q n t =
        allowed_intro m own a q needs (λ i l.
        let other : group_of own i ≡ k → ⊥ = λ e. n (sym (member_of own a l) ∙ e) in
        by_cases (any (λ g. eqb g.machine i) guards)
        (λ some. guarded a q i l other t some)
        (λ none. rw (mask-free m own k (move_at m v) i (member-there a i l) other none) (full-mode a q i l)))

    pub needs-allowed : (a q : ℕ) → (a ≡ k → ⊥)
        → allowed m (groups_in m plan) (guard_masks m (groups_in m plan) k (move_at m v)) a q
        ≡ meets m (groups_in m plan) a (move_at m v) q
    needs-allowed a q n = bool-ext (allowed-meets a q n) (meets-allowed a q n)

    -- a group that the move does not name may be in any mode
    pub needs-free : (a q : ℕ) → (Memᴰ a (named_outside m (groups_in m plan) k (v ∷ [])) → ⊥)
        → allowed m (groups_in m plan) (guard_masks m (groups_in m plan) k (move_at m v)) a q ≡ true
    needs-free a q n =
        by_cases (eqb a k)
        (λ t. allowed_intro m own a q needs (λ i l.
        let inside = member_of own a l ∙ eqb-true _ _ t in
        rw (mask-inside m own k (move_at m v) i (member-there a i l) inside) (full-mode a q i l)))
        (λ f. meets-allowed a q (eqb-false _ _ f) (meets-intro m own a q (move_at m v) (λ g l e. absurd (⊎_elim
        (λ inside. eqb-false _ _ f (sym e ∙ inside))
        (λ named. n (rw e at named))
        (guard-inside-or-named m own k valid (groups-length m valid plan shaped) member l)))))

    module _ (state : List ℕ) (sound : Sound m state) where
      -- the needs on group a hold if its present mode meets them
      pub holds-meets : (a : ℕ) → holds_inside m plan state a (move_at m v)
          ≡ meets m (groups_in m plan) a (move_at m v) (present m plan state a)
      unfolding holds_inside meets
      holds-meets a = all-cong _ _ guards (λ g l. by_cases (eqb (group_of own g.machine) a)
          (λ t.
          let inside = guard-member a g l (eqb-true _ _ t) in
          rw t (ap (bit g.mask) (sym (mode-present state sound a g.machine inside))))
          (λ f. rw f))

      pub met_holds : (a : ℕ) → (a ≡ k → ⊥)
          → met (groups_in m plan) (guard_masks m (groups_in m plan) k (move_at m v)) state a
          ≡ holds_inside m plan state a (move_at m v)
      met_holds a n = met-allowed state sound needs a ∙ needs-allowed a _ n ∙ sym (holds-meets a)

      pub needs-hold : holds_outside m plan state k (move_at m v) ≡ true → (a : ℕ)
          → met (groups_in m plan) (guard_masks m (groups_in m plan) k (move_at m v)) state a ≡ true
      unfolding holds_inside holds_outside
      needs-hold h a =
          by_cases (eqb a k)
          (λ t. met-allowed state sound needs a ∙ needs-free a _ (λ l. named_other m own k (v ∷ []) l (eqb-true _ _ t)))
          (λ f. met_holds a (eqb-false _ _ f) ∙ all-when-intro _ _ guards (λ g l e.
          unless-known (ap (λ x. eqb x k) (eqb-true _ _ e) ∙ f) (all-at _ h l)))

      -- a group that they leave unmet is one that the move names
      unmet-named : (a : ℕ) → met (groups_in m plan) (guard_masks m (groups_in m plan) k (move_at m v)) state a ≡ false
          → Memᴰ a (named_outside m (groups_in m plan) k (v ∷ []))
      unmet-named a unmet =
          ⊎_elim (λ n. n)
          (λ n. absurd (true-false (met-allowed state sound needs a ∙ needs-free a _ n) unmet))
          (mem-or-not a (named_outside m own k (v ∷ [])))

      -- and if the move counts, that group is upstream of k
      pub unmet-upstream : (counts : ℕ → Bool) → Memᴰ v (counted m plan counts k) → (a : ℕ)
          → met (groups_in m plan) (guard_masks m (groups_in m plan) k (move_at m v)) state a ≡ false
          → upstream_in m plan counts k a ≡ true
      unmet-upstream counts among a unmet =
          named-upstream m valid plan counts shaped k a (named-of-move m own k among (unmet-named a unmet))
          (move-below m valid plan shaped k v member)

      -- a need that fails leaves a lower group unmet
      pub needs-fail : holds_outside m plan state k (move_at m v) ≡ false
          → (a : ℕ) × (a < k) × (met (groups_in m plan) (guard_masks m (groups_in m plan) k (move_at m v)) state a ≡ false)
      unfolding holds_inside holds_outside
      needs-fail h =
          let r = all-fails _ guards h in
          let a = group_of own r.0.machine in
          let other : a ≡ k → ⊥ = eqb-false _ _ (or-false-left _ _ r.2) in
          let fails = or-false-right (eqb a k) _ r.2 in
          let low = guard-at-most m own (shape-first m plan shaped) (moves-mem m own k member) r.1 in
          let unmet : met own needs state a ≡ false =
          false-of-not-true (λ t.
          true-false (when-known (eq-eqb a a refl) (all-at _ (sym (met_holds a other) ∙ t) r.1)) fails) in
          (a, omega (arith, moves-group m (groups_in m plan) k member), unmet)
