-- The words of the meaning and the tests that are computed say the same.
-- Assumes nothing.
use Prim.Native.Nat.{ℕ, ◌≤◌, ◌<◌}
use mathlib.Core.Path.{◌≡◌, refl, sym, subst, ◌∙◌}
use mathlib.Core.Logic.{◌↔◌, ⊎_elim}
use mathlib.Core.List.Memᴰ
use mathlib.Core.List.Memᴰ.{head}
use mathlib.Core.List.{List, [], ◌∷◌, Memᴰ}
use mathlib.Core.Bool.{true, not}
use borrow.Author.Tests.{eqb-true, eq-eqb, le-leb, not-true}
use lib.Dec.{eqb}
use lib.ListN.{length}
use Rattle.common.specs.Lists.{up_to}
use Rattle.common.proofs.Bools.{by_cases, true-false, and_intro, and_left, and_right, or_left, or_right, or_cases}
use Rattle.common.proofs.Bools.{not_of_false}
use Rattle.common.proofs.Lists.{all-at, all-intro, any-intro, any_some}
use Rattle.common.proofs.Members.{mem-get_or, mem_index, up_to-mem, up_to-below}
use Rattle.sheet.specs.Model.{Guard, Model, machine_count, move_count, move_at, absent_move}
use Rattle.sheet.specs.Valid.{Valid}
use Rattle.plan.specs.Needs.{names, needs, Needs}
use Rattle.plan.specs.Groups.{Grouping, group_of, group_count, members, moves_of, named_outside}
use Rattle.plan.specs.Modes.{live_mode}
use Rattle.plan.specs.Usable.{meets}
use Rattle.plan.specs.Reading.{gapless, needs_first}
use Rattle.plan.specs.Meaning.{Belongs, MoveOf, NamesOutside, Live, Meets}
use Rattle.plan.proofs.ModeDigits.{member_below, member_of, is_member}
use Rattle.plan.proofs.Named.{moves-in, moves-below, moves-group, guard-valid}
use Rattle.plan.proofs.Named.{group-below-count, guard-at-most, named_in, named_by, named_other}

-- a machine needs another
pub needs-means : (m : Model) (i j : ℕ) → (needs m i j ≡ true) ↔ Needs m i j
unfolding needs names
needs-means m i j = (
  λ t.
      let r = any_some _ m.moves t in
      let s = any_some _ r.0.guards (and_right (eqb r.0.machine i) _ r.2) in
      record {
        move = r.0;
        listed = r.1;
        its_own = eqb-true _ _ (and_left _ _ r.2);
        need = s.0;
        among = s.1;
        on = eqb-true _ _ s.2;
      },
  λ n.
      any-intro _ n.listed
      (and_intro (eq-eqb _ _ n.its_own) (any-intro _ n.among (eq-eqb _ _ n.on))),
)

-- every number below the count is some machine's
pub gapless-means : (groups : Grouping) → (gapless groups ≡ true)
    ↔ ((k : ℕ) → k < group_count groups → (i : ℕ) × (i < length groups) × (group_of groups i ≡ k))
unfolding gapless
gapless-means groups = (
  λ t k h.
      let (x, x-in, e) = any_some (eqb k) groups (all-at _ t (up_to-mem h)) in
      let (i, below, same) = mem_index 0 x-in in
      (i, below, same ∙ sym (eqb-true _ _ e)),
  λ f.
      all-intro _ (up_to (group_count groups)) (λ k l.
      let (i, below, e) = f k (up_to-below (group_count groups) l) in
      any-intro (eqb k) (mem-get_or groups i 0 below) (eq-eqb _ _ (sym e))),
)

module _ (m : Model) (groups : Grouping) where
  -- no need above its move's group
  pub first-means : (needs_first m groups ≡ true) ↔ ((v : ℕ) (g : Guard) → v < move_count m
      → Memᴰ g (move_at m v).guards → group_of groups g.machine ≤ group_of groups (move_at m v).machine)
  unfolding needs_first
  first-means = (
    λ t v g h l. guard-at-most m groups t (mem-get_or m.moves v absent_move h) l,
    λ f.
        all-intro _ m.moves (λ v v-in. all-intro _ v.guards (λ g g-in.
        let (i, below, e) = mem_index absent_move v-in in
        le-leb _ _ (rw e at (f i g below (rw e g-in))))),
  )

  -- the moves of a group
  pub moves-mean : (v k : ℕ) → Memᴰ v (moves_of m groups k) ↔ MoveOf m groups v k
  moves-mean v k = (λ l. (moves-below m groups k l, moves-group m groups k l), λ b. moves-in m groups b.0 b.1)

  -- what a move needs of a group holds
  pub meets-means : (v a q : ℕ) → (meets m groups a (move_at m v) q ≡ true) ↔ Meets m groups v a q
  unfolding meets
  meets-means v a q = (
    λ t g n.
        ⊎_elim
        (λ o. absurd (true-false (eq-eqb _ _ n.1) (not-true _ o)))
        (λ b. b)
        (or_cases _ _ (all-at _ t n.0)),
    λ f.
        all-intro _ (move_at m v).guards (λ g l.
        by_cases (eqb (group_of groups g.machine) a)
        (λ t. or_right (not (eqb (group_of groups g.machine) a)) (f g (l, eqb-true _ _ t)))
        (λ o. or_left _ (not_of_false o))),
  )

  module _ (all-machines : length groups ≡ machine_count m) where
    -- the machines of a group
    pub members-mean : (i k : ℕ) → Memᴰ i (members groups k) ↔ Belongs m groups i k
    members-mean i k = (
      λ l. (rw all-machines at (member_below groups k l), member_of groups k l),
      λ b. is_member groups k (rw all-machines b.0) b.1,
    )

    -- live group modes
    pub live-means : (k p : ℕ) → (live_mode m groups k p ≡ true) ↔ Live m groups k p
    unfolding live_mode
    live-means k p = (
      λ t i b. all-at _ t ((members-mean i k).1 b),
      λ f. all-intro _ (members groups k) (λ i l. f i ((members-mean i k).0 l)),
    )

    -- the outside groups that some moves of a group name
    pub named-mean : Valid m → (a k : ℕ) (moves : List ℕ) → ((v : ℕ) → Memᴰ v moves → MoveOf m groups v k)
        → Memᴰ a (named_outside m groups k moves) ↔ ((v : ℕ) × Memᴰ v moves × NamesOutside m groups v a)
    named-mean valid a k moves of-k = (
      λ l.
          let (v, v-in, g, g-in, e) = named_by m groups k moves l in
          (v, v-in, (λ o. named_other m groups k moves l (o ∙ (of-k v v-in).1), (g, (g-in, e)))),
      λ r.
          let (v, v-in, (n, (g, (g-in, e)))) = r in
          let here = (guard-valid valid (mem-get_or m.moves v absent_move (of-k v v-in).0) g-in).present in
          let below = group-below-count groups g.machine (rw all-machines here) in
          named_in m groups (rw (← e) below) (λ o. n (o ∙ sym (of-k v v-in).1)) (v, v-in, g, g-in, e),
    )

    -- and those that one move names
    pub named-means : Valid m → {v : ℕ} (a : ℕ) → v < move_count m
        → Memᴰ a (named_outside m groups (group_of groups (move_at m v).machine) (v ∷ []))
        ↔ NamesOutside m groups v a
    named-means valid {v} a h =
        let k = group_of groups (move_at m v).machine in
        let own : (w : ℕ) → Memᴰ w (v ∷ []) → MoveOf m groups w k =
        λ w w-in. subst (λ x. MoveOf m groups x k) (sym (Memᴰ.eq_of_singleton w-in)) (h, refl) in
        let r = named-mean valid a k (v ∷ []) own in (
          λ l. let (w, w-in, n) = r.0 l in subst (λ x. NamesOutside m groups x a) (Memᴰ.eq_of_singleton w-in) n,
          λ n. r.1 (v, head refl, n),
        )
