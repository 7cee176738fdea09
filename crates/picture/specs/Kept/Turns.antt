-- How the code judges the numbers of groups: going down from the last group, with the set of the groups that wait.
use Rattle.std.specs.Prelude.{ℕ, ◌≤◌, ◌<◌, ◌≡◌, List, Bool, true, not, ◌&&◌, length, get_or, eqb, ltb, leb}
use Rattle.common.specs.Bits.{bit}
use Rattle.common.specs.Lists.{up_to, find}
use Rattle.plan.specs.Groups.{Grouping, group_of}

-- the set of the groups that need a group from k on
pub record Waiting (targets : List ℕ) (k set : ℕ) : Type 0 where
  pub sound : (g : ℕ) → bit set g ≡ true → (a : ℕ) × (k ≤ a) × (a < length targets) × (bit (get_or targets a 0) g ≡ true)
  pub whole : (a g : ℕ) → k ≤ a → a < length targets → bit (get_or targets a 0) g ≡ true → bit set g ≡ true

module _ (numbers : Grouping) (waiting k : ℕ) where
  -- machine i is of a group from k on that does not wait
  unfoldable pub ready_in : ℕ → Bool
  ready_in i = leb k (group_of numbers i) && not (bit waiting (group_of numbers i))

  abbrev pub first_ready : ℕ
  first_ready = find ready_in (up_to (length numbers)) (length numbers)

  -- the first such machine is of group k
  unfoldable pub turn_of : Bool
  turn_of = ltb first_ready (length numbers) && eqb (group_of numbers first_ready) k
