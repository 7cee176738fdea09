-- What a step through the members of a set gives.
use Rattle.std.specs.Prelude.{◌≡◌, ℕ, ◌<◌, true, false, Option, MatchOption}
use Rattle.common.specs.Bits.{bit}
use Rattle.sets.specs.Kept.Sets.{alone, less, least}
use Rattle.sets.specs.declared.Ascending.{Ascending}

-- the least member is taken from a set: the others are left
pub record Taken (set i left : ℕ) : Type 0 where
  pub some : set ≡ 0 → ⊥
  pub below : i < 64
  pub first : i ≡ least set
  pub others : left ≡ less set (alone i)

-- a step gives the least member, if there is one
abbrev pub GivesLeast : Ascending → Option ℕ → Ascending → Type 0
GivesLeast m r m' = MatchOption r ((m.rest ≡ 0) × (m'.rest ≡ 0)) (λ i. Taken m.rest i m'.rest)

-- the greatest member is taken from a set: the others are left
pub record TakenLast (set i left : ℕ) : Type 0 where
  pub below : i < 64
  pub member : bit set i ≡ true
  pub last : (j : ℕ) → i < j → bit set j ≡ false
  pub others : left ≡ less set (alone i)

-- a step from the other end gives the greatest member, if there is one
abbrev pub GivesGreatest : Ascending → Option ℕ → Ascending → Type 0
GivesGreatest m r m' = MatchOption r ((m.rest ≡ 0) × (m'.rest ≡ 0)) (λ i. TakenLast m.rest i m'.rest)
