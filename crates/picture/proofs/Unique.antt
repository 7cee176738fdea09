-- Only one numbering of a sheet's machines is right.
-- Assumes nothing.
use Prim.Native.Nat.{ℕ, zero, suc, ◌≤◌, ◌<◌}
use mathlib.Core.Path.{◌≡◌, sym, ◌∙◌}
use mathlib.Core.Logic.{⊎_elim}
use mathlib.Core.Bool.{Bool, true}
use native.Mathlib.Nat.{not-suc-le-zero}
use native.Mathlib.Omega.{arith}
use borrow.Author.Tests.{eqb-true, eq-eqb}
use lib.Dec.{eqb}
use lib.Seq.{ext_get_or}
use Rattle.common.specs.Lists.{up_to, any, find}
use Rattle.common.proofs.Least.{last-or-below}
use Rattle.common.proofs.Lists.{any-intro}
use Rattle.common.proofs.Members.{up_to-mem}
use Rattle.common.proofs.Search.{find-holds, find-up_to-least, find-up_to-below}
use Rattle.sheet.specs.Model.{Model, machine_count}
use Rattle.plan.specs.Groups.{Grouping, group_of, group_count}
use Rattle.plan.specs.Meaning.{GroupsRight, Belongs}

-- a number below k is the other numbering's too
abbrev Agree : Model → Grouping → Grouping → ℕ → Type 0
Agree m a b k = (i : ℕ) → i < machine_count m → group_of a i < k → group_of b i ≡ group_of a i

module _ {m : Model} where
  -- the smallest machine of group k
  pub first_member : {a : Grouping} → GroupsRight m a → (k : ℕ) → k < group_count a
      → (i : ℕ) × Belongs m a i k × ((j : ℕ) → Belongs m a j k → i ≤ j)
  first_member {a} right k h =
      let (u, u-below, e) = right.gapless k h in
      let here : ℕ → Bool = λ i. eqb (group_of a i) k in
      let some : any here (up_to (machine_count m)) ≡ true = any-intro here (up_to-mem u-below) (eq-eqb _ _ e) in (
        find here (up_to (machine_count m)) 0,
        (find-up_to-below here (machine_count m) 0 some, eqb-true _ _ (find-holds here (up_to (machine_count m)) 0 some)),
        λ j b. find-up_to-least here 0 j b.0 (eq-eqb _ _ b.1),
      )

  module _ {a b : Grouping} (right : GroupsRight m a) (other : GroupsRight m b) where
    same-group : (i j : ℕ) → i < machine_count m → j < machine_count m → group_of a i ≡ group_of a j
        → group_of b i ≡ group_of b j
    same-group i j hi hj e = (other.exactly i j hi hj).1 ((right.exactly i j hi hj).0 e)

  module _ {a b : Grouping} (right : GroupsRight m a) (other : GroupsRight m b) (k : ℕ)
      (there : Agree m a b k) (back : Agree m b a k) where
    not_lower : (i : ℕ) → i < machine_count m → k ≤ group_of a i → k ≤ group_of b i
    not_lower i h l = let n : ¬ (group_of b i < k) = λ s. omega (arith, back i h s) in omega arith

    -- a machine of the other's group k could take k here
    takes : (j : ℕ) → k < group_count a → Belongs m b j k → (i : ℕ) × (group_of a i ≡ k) × (i ≤ j)
    takes j h b-j =
        let (hj, e) = b-j in
        let n : ¬ (group_of a j < k) = λ s. omega (arith, there j hj s) in
        right.smallest-next k j h hj (omega arith) (λ x y hx hy same need apart.
        let first = other.needs-first x y hx hy need in
        let lower : group_of b y ≡ k → ⊥ = λ q. apart (same-group other right y j hy hj (q ∙ sym e)) in
        let small : group_of b y < k = omega (arith, same-group right other x j hx hj same) in
        omega (arith, back y hy small))

  module _ {a b : Grouping} (right : GroupsRight m a) (other : GroupsRight m b) (k : ℕ)
      (there : Agree m a b k) (back : Agree m b a k) where
    same_number : (i : ℕ) → i < machine_count m → group_of a i ≡ k → group_of b i ≡ k
    same_number i h e =
        let ha : k < group_count a = omega (arith, right.below-count i h) in
        let hb : k < group_count b =
        omega (arith, not_lower right other k there back i h (omega arith), other.below-count i h) in
        let (u, (hu, eu), least-u) = first_member right k ha in
        let (w, (hw, ew), least-w) = first_member other k hb in
        let (x, ex, lx) = takes right other k there back w ha (hw, ew) in
        let (y, ey, ly) = takes other right k back there u hb (hu, eu) in
        let same : u ≡ w = omega (arith, least-u x (omega arith, ex), least-w y (omega arith, ey)) in
        same-group right other i u h hu (e ∙ sym eu) ∙ rw same ew

    agree-next : Agree m a b (suc k)
    agree-next i h l =
        ⊎_elim (λ e. same_number i h e ∙ sym e) (λ s. there i h s) (last-or-below l)

  module _ {a b : Grouping} (right : GroupsRight m a) (other : GroupsRight m b) where
    agree : (k : ℕ) → Agree m a b k × Agree m b a k
    agree zero = (λ i h l. absurd (not-suc-le-zero l), λ i h l. absurd (not-suc-le-zero l))
    agree (suc k) =
        let (there, back) = agree k in
        (agree-next right other k there back, agree-next other right k back there)

    pub groups-unique : a ≡ b
    groups-unique =
        ext_get_or 0 a b (right.numbers-all ∙ sym other.numbers-all) (λ i h.
        sym ((agree (suc (group_of a i))).0 i (omega (arith, right.numbers-all)) (omega arith)))
