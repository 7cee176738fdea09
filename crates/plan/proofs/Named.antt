-- Which groups a group's moves name outside it: the members of `moves_of` and `named_outside`, for any grouping.
-- Assumes nothing.
use Prim.Native.Nat.{ℕ, suc, ◌≤◌, ◌<◌}
use mathlib.Core.Path.{◌≡◌, refl, subst}
use mathlib.Core.Logic.{◌⊎◌, inl, inr}
use mathlib.Core.List.Memᴰ
use mathlib.Core.List.Memᴰ.{head}
use mathlib.Core.List.{List, [], ◌∷◌, Memᴰ}
use mathlib.Core.Bool.{true, not}
use native.Mathlib.Omega.{arith}
use borrow.Author.Tests.{eqb-true, eqb-false, eq-eqb, ne_eqb, leb-true, not-true}
use lib.Dec.{eqb}
use lib.ListN.{length}
use Rattle.common.specs.Lists.{up_to}
use Rattle.common.proofs.Bools.{by_cases, and_intro, and_left, and_right, not_of_false}
use Rattle.common.proofs.Members.{mem-get_or, mem_index, up_to-mem, up_to-below}
use Rattle.common.proofs.Lists.{all-at, any-intro, any_some}
use Rattle.common.proofs.Lists.{filter-mem, filter-from, filter-holds}
use Rattle.common.proofs.Sums.{maximum-above}
use Rattle.sheet.specs.Model.{Guard, Move, Model, machine_count, move_count, move_at, absent_move, absent_guard}
use Rattle.sheet.specs.Valid.{Valid, ValidMove, ValidGuard}
use Rattle.plan.specs.Groups.{Grouping, group_of, group_count, moves_of, names_group, named_outside}
use Rattle.plan.specs.Reading.{needs_first}

-- a valid sheet's moves and guards, found as members
module _ {m : Model} (valid : Valid m) where
  pub move-valid : {v : Move} → Memᴰ v m.moves → ValidMove m v
  move-valid l = let r = mem_index absent_move l in subst (ValidMove m) r.2 (valid.moves-valid r.0 r.1)

  pub guard-valid : {v : Move} {g : Guard} → Memᴰ v m.moves → Memᴰ g v.guards → ValidGuard m v g
  guard-valid {v} l k =
      let r = mem_index absent_guard k in
      subst (ValidGuard m v) r.2 ((move-valid l).guards-valid r.0 r.1)

-- a machine's number is below the number of groups
pub group-below-count : (groups : Grouping) (i : ℕ) → i < length groups → group_of groups i < group_count groups
unfolding group_count
group-below-count groups i h = maximum-above (Memᴰ.map suc (mem-get_or groups i 0 h))

module _ (m : Model) (groups : Grouping) where
  -- The moves of group k

  pub moves-in : {v k : ℕ} → v < move_count m → group_of groups (move_at m v).machine ≡ k → Memᴰ v (moves_of m groups k)
  unfolding moves_of
  moves-in h e = filter-mem _ (up_to-mem h) (eq-eqb _ _ e)

  module _ {v : ℕ} (k : ℕ) (l : Memᴰ v (moves_of m groups k)) where
    pub moves-below : v < move_count m
    unfolding moves_of
    moves-below = up_to-below (move_count m) (filter-from _ (up_to (move_count m)) l)

    pub moves-group : group_of groups (move_at m v).machine ≡ k
    unfolding moves_of
    moves-group = eqb-true _ _ (filter-holds _ (up_to (move_count m)) l)

    pub moves-mem : Memᴰ (move_at m v) m.moves
    moves-mem = mem-get_or m.moves v absent_move moves-below

  -- The outside groups that some moves of group k name

  -- a guard of one of the moves is on a machine of group a
  abbrev pub NamedBy : ℕ → List ℕ → Type 0
  NamedBy a moves =
      (v : ℕ) × Memᴰ v moves × (g : Guard) × Memᴰ g (move_at m v).guards × (group_of groups g.machine ≡ a)

  pub named_in : {a k : ℕ} {moves : List ℕ} → a < group_count groups → (a ≡ k → ⊥) → NamedBy a moves
      → Memᴰ a (named_outside m groups k moves)
  unfolding named_outside names_group
  named_in {a} h n b =
      filter-mem _ (up_to-mem h)
      (and_intro (not_of_false (ne_eqb _ _ n)) (any-intro _ b.1 (any-intro _ b.3 (eq-eqb _ _ b.4))))

  module _ {a : ℕ} (k : ℕ) (moves : List ℕ) (l : Memᴰ a (named_outside m groups k moves)) where
    pub named-below : a < group_count groups
    unfolding named_outside
    named-below = up_to-below (group_count groups) (filter-from _ (up_to (group_count groups)) l)

    pub named_other : a ≡ k → ⊥
    unfolding named_outside
    named_other = eqb-false a k (not-true _ (and_left _ _ (filter-holds _ (up_to (group_count groups)) l)))

    pub named_by : NamedBy a moves
    unfolding named_outside names_group
    named_by =
        let r = any_some _ moves (and_right (not (eqb a k)) _ (filter-holds _ (up_to (group_count groups)) l)) in
        let s = any_some _ (move_at m r.0).guards r.2 in
        (r.0, r.1, s.0, s.1, eqb-true _ _ s.2)

  -- more moves name more
  pub named_more : {a : ℕ} (k : ℕ) (moves : List ℕ) {more : List ℕ} → ((v : ℕ) → Memᴰ v moves → Memᴰ v more)
      → Memᴰ a (named_outside m groups k moves) → Memᴰ a (named_outside m groups k more)
  named_more k moves f l =
      let b = named_by k moves l in
      named_in (named-below k moves l) (named_other k moves l) (b.0, f b.0 b.1, b.2, b.3, b.4)

  pub named-of-move : {v a : ℕ} {moves : List ℕ} (k : ℕ) → Memᴰ v moves
      → Memᴰ a (named_outside m groups k (v ∷ [])) → Memᴰ a (named_outside m groups k moves)
  named-of-move {v} k l =
      named_more k (v ∷ []) (λ w w-is. Memᴰ.cast (Memᴰ.eq_of_singleton w-is) l)

  -- what one move names, it names by a guard of its own
  pub named-guard : {a : ℕ} (k v : ℕ) → Memᴰ a (named_outside m groups k (v ∷ []))
      → (g : Guard) × Memᴰ g (move_at m v).guards × (group_of groups g.machine ≡ a)
  named-guard {a} k v l =
      let b = named_by k (v ∷ []) l in
      let e = Memᴰ.eq_of_singleton b.1 in
      (b.2, subst (λ w. Memᴰ b.2 (move_at m w).guards) e b.3, b.4)

  -- a guard on a machine of another group names that group
  pub guard-named : (k v : ℕ) {g : Guard} → Memᴰ g (move_at m v).guards → g.machine < length groups
      → (group_of groups g.machine ≡ k → ⊥) → Memᴰ (group_of groups g.machine) (named_outside m groups k (v ∷ []))
  guard-named k v {g} l h n = named_in (group-below-count groups g.machine h) n (v, head refl, g, l, refl)

  -- Where no need is above its move's group, a group names lower groups alone

  pub guard-at-most : {v : Move} {g : Guard} → needs_first m groups ≡ true
      → Memᴰ v m.moves → Memᴰ g v.guards → group_of groups g.machine ≤ group_of groups v.machine
  unfolding needs_first
  guard-at-most first v-in g-in = leb-true _ _ (all-at _ (all-at _ first v-in) g-in)

  pub named-lower : {a : ℕ} (k : ℕ) → needs_first m groups ≡ true
      → Memᴰ a (named_outside m groups k (moves_of m groups k)) → a < k
  named-lower {a} k first l =
      let b = named_by k (moves_of m groups k) l in
      let n = named_other k (moves_of m groups k) l in
      let le = guard-at-most first (moves-mem k b.1) b.3 in
      omega (arith, moves-group k b.1)

  -- the same of one move
  pub named-lower-move : {v a : ℕ} (k : ℕ) → needs_first m groups ≡ true → Memᴰ v (moves_of m groups k)
      → Memᴰ a (named_outside m groups k (v ∷ [])) → a < k
  named-lower-move k first v-in l = named-lower k first (named-of-move k v-in l)

  -- a guard of a move of group k is on group k itself or names a group
  pub guard-inside-or-named : {v : ℕ} {g : Guard} (k : ℕ) → Valid m → length groups ≡ machine_count m
      → Memᴰ v (moves_of m groups k) → Memᴰ g (move_at m v).guards
      → (group_of groups g.machine ≡ k) ⊎ Memᴰ (group_of groups g.machine) (named_outside m groups k (v ∷ []))
  guard-inside-or-named {v} {g} k valid e v-in g-in =
      by_cases (eqb (group_of groups g.machine) k)
      (λ t. inl (eqb-true _ _ t))
      (λ f. inr (guard-named k v g-in (rw e (guard-valid valid (moves-mem k v-in) g-in).present) (eqb-false _ _ f)))
